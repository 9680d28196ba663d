pub mod Numbers
pub mod Asked
pub mod Command
pub mod Plain
