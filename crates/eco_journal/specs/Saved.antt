-- The heads of the blocks of a saved journal, as the reader keeps them.
use Rattle.std.specs.Prelude.{ℕ, List}
use Rattle.timing_defs.specs.declared.edits.Entry.{Entry}
use Rattle.eco_journal.specs.declared.saved.BlockHead.{BlockHead}
use Rattle.eco_journal.specs.declared.saved.BlockHead.TheVariants.{Plain, Scaled}
use Rattle.eco_journal.specs.Journal.{Text, State, entries_left, factors}

-- what may stand behind the head of the block at a place
abbrev pub behind_head : Text → ℕ → List Entry → BlockHead → State
behind_head t at all (Plain count) = entries_left t count all
behind_head t at all (Scaled flaw count) = factors at flaw count all
