pub mod Bytes
pub mod Faults
pub mod Names
pub mod Pieces
pub mod Tokens
