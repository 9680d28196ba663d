-- Steps of a history's walks, and lemmas on writing and reading in pieces.
mod Walks
mod Streams
mod Pieces
