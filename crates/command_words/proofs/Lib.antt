mod AppLemmas
mod ByRows
mod NumberLemmas
mod PlainWalk
mod PlainRun
mod PlainGenerate
mod PlainJournal
