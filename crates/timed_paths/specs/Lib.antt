pub mod Choices
pub mod Ends
pub mod Found
pub mod Numbers
pub mod TestNumbers
