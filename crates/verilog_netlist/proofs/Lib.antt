pub mod LexiconLemmas
pub mod NamesLemmas
pub mod BitLemmas
pub mod FaultLemmas
pub mod SetLemmas
mod ModuleLemmas
mod FewLemmas
mod BracketLemmas
mod CoverLemmas
pub mod LateLemmas
pub mod FormLaws
pub mod KeptLaws
