pub mod Divisors
pub mod Marks
pub mod Later
pub mod CycleRanges
