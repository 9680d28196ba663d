pub mod Soundness
pub mod Counting
