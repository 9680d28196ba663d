pub mod Agreed
pub mod Carried
