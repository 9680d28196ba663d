pub mod Unseeded
pub mod Times
pub mod Carry
pub mod KeptPins
pub mod Sides
pub mod Ordered
