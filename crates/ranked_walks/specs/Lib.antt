pub mod Branches
pub mod Fitting
pub mod Outs
pub mod Searching
