-- What the contracts of doors, halls and journals cite.
pub mod Doors
pub mod Halls
pub mod InMemory
pub mod Lines
pub mod Marks
pub mod MemDoors
pub mod Streams
