pub mod BeginLaws
pub mod EndLaws
