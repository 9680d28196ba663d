use Rattle.std.proofs.Common.{◌≡◌, ◌∷◌, take}
use Rattle.netlist_store.proofs.name_maps.pairs_behind.Given as goal

abbrev pub invariant-loop-other : goal.invariant-loop-other
invariant-loop-other l = l.all ≡ (l.fn.name, l.fn.number) ∷ take l.other-index l.pairs
