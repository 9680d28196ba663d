pub mod Versions
pub mod Looking
pub mod Running
pub mod Trying
pub mod Replaying
