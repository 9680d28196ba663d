pub mod Mapped
pub mod Parts
