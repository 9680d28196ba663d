use Rattle.std.proofs.Common.{◌≡◌, take}
use Rattle.netlist_store.proofs.ShardLaws.{others}
use Rattle.netlist_store.proofs.name_maps.pairs_without.Given as goal

abbrev pub invariant-loop-other : goal.invariant-loop-other
invariant-loop-other l = l.rest ≡ others l.name (take l.other-index l.pairs)
