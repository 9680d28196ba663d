pub mod Best
pub mod Searches
pub mod Tables
pub mod Walks
