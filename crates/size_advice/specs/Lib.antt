pub mod Keeping
pub mod Sizes
pub mod Unknown
