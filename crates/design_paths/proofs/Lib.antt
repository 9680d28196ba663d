pub mod FirstLists
pub mod PathOrder
pub mod NodeLists
pub mod Keeping
pub mod EndLists
pub mod Adding
pub mod Stopping
pub mod RowReports
