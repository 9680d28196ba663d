pub mod Answers
pub mod Designs
pub mod Documents
pub mod Kept
pub mod Reading
pub mod Scripts
