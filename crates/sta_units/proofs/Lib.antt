pub mod Rounding
pub mod Roots
pub mod Digits
pub mod Scaling
