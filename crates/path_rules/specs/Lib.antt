pub mod Clocks
pub mod Ends
pub mod Exceptions
pub mod Ranges
pub mod Words
