pub mod RowLaws
pub mod LongerJournals
pub mod TrialLaws
pub mod ClosingLaws
