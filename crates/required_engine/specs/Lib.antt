pub mod Leveled
pub mod Behinds
pub mod Worked
pub mod Updated
