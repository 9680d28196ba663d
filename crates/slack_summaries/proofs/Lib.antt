pub mod RowOrder
pub mod FailingLaws
pub mod RegisterLaws
pub mod OutermostLaws
pub mod SkewLaws
pub mod EndLaws
pub mod BothSplits
