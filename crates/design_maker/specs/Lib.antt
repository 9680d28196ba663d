pub mod Draws
pub mod Insts
pub mod Sessions
pub mod Written
pub mod Constants
