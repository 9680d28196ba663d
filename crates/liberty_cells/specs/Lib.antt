pub mod Statements
pub mod Units
pub mod Tables
pub mod Places
pub mod Cells
pub mod Faults
