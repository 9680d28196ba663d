pub mod Delays
pub mod FanIns
pub mod Following
pub mod Reaching
