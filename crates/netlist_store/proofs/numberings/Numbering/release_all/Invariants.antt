use Rattle.std.proofs.Common.{◌≡◌}
use Rattle.netlist_store.proofs.numberings.Numbering.release_all.Given as goal

abbrev pub invariant-loop-number : goal.invariant-loop-number
invariant-loop-number l = l.self ≡ l.initial.self
