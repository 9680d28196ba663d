pub mod Backward
pub mod ClockEdges
pub mod GraphPlaces
pub mod TestsKept
