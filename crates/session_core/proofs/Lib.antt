pub mod Places
pub mod Ordering
pub mod Looks
pub mod Standing
pub mod Within
pub mod Runs
