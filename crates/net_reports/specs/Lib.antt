pub mod Asked
pub mod Parasitics
pub mod Sinks
