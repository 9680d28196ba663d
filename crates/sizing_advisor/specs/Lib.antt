pub mod Trying
pub mod Greatest
