pub mod Cone
pub mod Waiting
