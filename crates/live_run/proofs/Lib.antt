pub mod PoppedLaws
pub mod SeatLaws
pub mod WholeLaws
pub mod PartedLaws
pub mod FileLaws
pub mod EndLaws
pub mod BeginLaws
