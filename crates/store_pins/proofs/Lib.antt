pub mod PinNames
pub mod PinLaws
pub mod OwnNames
pub mod DriverLaws
