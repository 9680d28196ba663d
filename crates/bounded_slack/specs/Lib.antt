pub mod Cuts
pub mod Lowest
pub mod Nets
pub mod Rows
pub mod Nears
