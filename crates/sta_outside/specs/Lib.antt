-- What the contracts of shelves, sinks and gates cite.
pub mod Files
pub mod InMemory
pub mod Plan
pub mod Shelf
pub mod Sink
