pub mod Words
pub mod Commands
pub mod Grammar
pub mod Reads
pub mod Numbers
pub mod Tables
pub mod Meaning
pub mod Faults
