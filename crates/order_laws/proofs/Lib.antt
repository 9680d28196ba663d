pub mod Folds
pub mod Resizes
pub mod Journals
pub mod Scripts
pub mod GeneratedOrder
