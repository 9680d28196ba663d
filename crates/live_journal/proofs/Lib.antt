pub mod Texts
pub mod Kept
pub mod Moves
pub mod LastByte
pub mod SavedBack
pub mod Torn
