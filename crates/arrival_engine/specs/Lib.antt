pub mod Analysed
pub mod Leveled
pub mod Planned
pub mod Updated
