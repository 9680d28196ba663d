use Rattle.std.proofs.Common.{◌≡◌, drop}
use Rattle.std.specs.List.{list_all, list_any}
use Rattle.timing_defs.specs.Edits.{same_cell_pin}
use Rattle.netlist_store.proofs.agreement.pins_within.Given as goal

abbrev pub invariant-loop-at : goal.invariant-loop-at
invariant-loop-at l = list_all (λ pin. list_any (same_cell_pin pin) l.others) (drop l.at l.pins) ≡ list_all (λ pin. list_any (same_cell_pin pin) l.others) l.pins
