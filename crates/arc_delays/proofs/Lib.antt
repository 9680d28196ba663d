pub mod DelayLaws
pub mod RangeLaws
pub mod TableLaws
