pub mod Pairs
pub mod Quiet
