pub mod DesignLaws
pub mod JournalLaws
pub mod ReadLemmas
pub mod ScriptLaws
pub mod Stopping
