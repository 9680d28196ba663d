pub mod LineCount
pub mod ProgressLemmas
pub mod KeptLaws
pub mod LiveLaws
pub mod LiveKeptLaws
