pub mod Numbers
pub mod Picoseconds
pub mod Decimal
