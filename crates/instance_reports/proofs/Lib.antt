pub mod OrderLaws
pub mod CellLaws
pub mod PinLaws
pub mod ResizeLaws
pub mod SizeLaws
pub mod AskedLaws
