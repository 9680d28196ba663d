pub mod Reach
pub mod Besides
