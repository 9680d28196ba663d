pub mod FirstLists
pub mod Placing
pub mod TrialLaws
pub mod ReportLaws
pub mod OnceLaws
pub mod SizeLaws
