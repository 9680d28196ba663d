use Rattle.std.proofs.Common.{◌≡◌, length}
use Rattle.netlist_store.specs.Drafts.{KeepsItems}
use Rattle.netlist_store.proofs.row_edits.widen_with.Given as goal

abbrev pub invariant-loop-i : goal.invariant-loop-i
invariant-loop-i g l = record { kept : KeepsItems l.initial.rows l.rows; len : length l.rows ≡ l._i }
