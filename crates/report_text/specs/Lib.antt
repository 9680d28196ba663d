pub mod Errors
pub mod NetLines
