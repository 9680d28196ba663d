use Rattle.std.proofs.Common.{◌≡◌, length}
use Rattle.netlist_store.specs.Building.{AreNetPins}
use Rattle.netlist_store.proofs.building.pins_by_net.Given as goal

abbrev pub invariant-loop-pin : goal.invariant-loop-pin
invariant-loop-pin l = (length l.lists.items ≡ l.nets) × AreNetPins l.rows l.pin l.lists.items
