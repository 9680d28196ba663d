pub mod QuietReach
pub mod CleanPins
pub mod Insertions
pub mod Spreading
pub mod Beside
pub mod FromSeeds
