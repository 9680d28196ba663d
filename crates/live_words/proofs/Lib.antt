mod AppLemmas
mod ByRows
mod NumberLemmas
mod Pairs
mod PlainWalk
mod PlainLive
mod PlainJournal
