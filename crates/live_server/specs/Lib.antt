pub mod Beginnings
pub mod Endings
pub mod Serving
pub mod Statuses
