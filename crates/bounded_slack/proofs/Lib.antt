pub mod Bounds
pub mod Cutting
pub mod Keys
pub mod LowSlacks
pub mod Prefixes
pub mod TwoEnds
pub mod Nearing
