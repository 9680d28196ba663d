pub mod ConeLaws
pub mod ConeParts
pub mod Growing
pub mod Orders
pub mod PartLaws
pub mod Followed
