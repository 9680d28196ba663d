pub mod CaptureLaws
pub mod KeptLaws
pub mod Reordering
pub mod EndCounts
pub mod TotalLaws
pub mod SummaryLaws
