pub mod Measures
pub mod WrittenNets
