-- Lemmas on writing in pieces.
pub mod Streams
