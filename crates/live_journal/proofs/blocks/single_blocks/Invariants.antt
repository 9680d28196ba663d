use Rattle.std.proofs.Common.{◌≡◌, ◌+◌, ◌++◌, drop}
use Rattle.eco_journal.specs.Blocks.{blocks_text}
use Rattle.live_journal.specs.Desk.{single}
use Rattle.live_journal.proofs.blocks.single_blocks.Given as goal

abbrev pub invariant-loop-entry : goal.invariant-loop-entry
invariant-loop-entry l =
    (l.bytes.items ++ blocks_text l.derates l.number (single (drop l.entry-index l.entries)) ≡ blocks_text l.derates l.fn.first (single l.entries))
    × (l.number ≡ l.fn.first + l.entry-index)
