pub mod Failures
pub mod Registers
pub mod Outermost
pub mod Skews
