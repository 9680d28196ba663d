pub mod Joins
pub mod Pile
