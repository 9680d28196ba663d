pub mod Desk
pub mod Receipts
pub mod Passes
pub mod Sinks
pub mod Ends
pub mod Laws
pub mod Joins
