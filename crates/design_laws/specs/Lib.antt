pub mod Netlists
pub mod Scripts
pub mod Constants
