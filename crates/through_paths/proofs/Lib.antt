pub mod Greedy
pub mod PassLaws
pub mod StopLaws
pub mod BegunLaws
pub mod ThroughPaths
