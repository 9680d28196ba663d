pub mod Building
pub mod Counting
pub mod Knowing
pub mod Layering
pub mod Lifting
pub mod Numbers
pub mod Stages
pub mod Worst
