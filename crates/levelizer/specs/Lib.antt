pub mod FanOut
pub mod Levels
pub mod Reaching
pub mod Sweep
pub mod Tails
