pub mod Orders
pub mod Resizes
