pub mod ConeLaws
pub mod Counts
pub mod Passes
pub mod Puts
pub mod Turns
pub mod WaitingLaws
