pub mod Talks
pub mod Turns
pub mod Moments
