pub mod JournalLaws
pub mod VersionLaws
pub mod Scripts
pub mod Numbers
pub mod Kept
pub mod Sights
pub mod Rows
pub mod ReplayLaws
