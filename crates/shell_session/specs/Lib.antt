pub mod Each
pub mod Linking
pub mod Generating
pub mod Serving
