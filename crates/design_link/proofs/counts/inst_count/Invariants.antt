use Rattle.std.proofs.Common.{◌≡◌, ◌≤◌, length}
use Rattle.design_link.specs.Counts.{names_below}
use Rattle.design_link.proofs.counts.inst_count.Given as goal

abbrev pub invariant-loop-inst : goal.invariant-loop-inst
invariant-loop-inst l = record { is : l.count ≡ length (names_below l.store.insts l.inst); low : l.count ≤ l.inst }
