pub mod Climbs
pub mod Growing
pub mod Lowest
