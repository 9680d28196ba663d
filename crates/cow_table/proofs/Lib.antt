pub mod Full
pub mod Places
pub mod Writing
pub mod Parts
pub mod Moving
