pub mod Measuring
pub mod WrittenLaws
