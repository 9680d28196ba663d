pub mod SamePaths
pub mod CarriedPaths
pub mod Shielded
pub mod Outermost
