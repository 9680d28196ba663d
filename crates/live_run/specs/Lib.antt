pub mod Sessions
pub mod Seating
pub mod Closing
pub mod Runs
