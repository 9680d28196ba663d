pub mod ListLemmas
pub mod SameNames
pub mod SameBytes
pub mod Members
