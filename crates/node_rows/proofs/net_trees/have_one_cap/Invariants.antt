use Rattle.std.proofs.Common.{◌≡◌, drop}
use Rattle.std.specs.List.{list_all}
use Rattle.node_rows.specs.NetPins.{has_one_cap}
use Rattle.node_rows.proofs.net_trees.have_one_cap.Given as goal

abbrev pub invariant-loop-pin : goal.invariant-loop-pin
invariant-loop-pin l = list_all (has_one_cap l.store) (drop l.pin-index l.pins) ≡ list_all (has_one_cap l.store) l.pins
