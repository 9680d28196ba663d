use Rattle.std.proofs.Common.{◌≡◌, drop}
use Rattle.std.specs.List.{list_all, list_any}
use Rattle.timing_defs.specs.Edits.{same_arc}
use Rattle.netlist_store.proofs.agreement.arcs_within.Given as goal

abbrev pub invariant-loop-at : goal.invariant-loop-at
invariant-loop-at l = list_all (λ arc. list_any (same_arc arc) l.others) (drop l.at l.arcs) ≡ list_all (λ arc. list_any (same_arc arc) l.others) l.arcs
