pub mod Captures
pub mod Totals
