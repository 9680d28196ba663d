use Rattle.std.proofs.Common.{◌≡◌, take}
use Rattle.netlist_store.proofs.building.held_lists.Given as goal

abbrev pub invariant-loop-list : goal.invariant-loop-list
invariant-loop-list l = l.table ≡ take l.list-index l.lists
