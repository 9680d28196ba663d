pub mod CellsKept
mod ConnNets
pub mod EditOf
pub mod InstsKept
pub mod LinksKept
mod Lists
pub mod NamedPins
pub mod NetRows
pub mod NetsLeft
pub mod Numbers
pub mod PinWords
pub mod PinsKept
pub mod SeenLaws
