pub mod TableLemmas
pub mod PinLemmas
pub mod ClockLemmas
pub mod Signed
mod GoingOn
pub mod SuitLaws
pub mod KeptLaws
