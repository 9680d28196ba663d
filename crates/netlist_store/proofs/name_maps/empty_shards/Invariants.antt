use Rattle.std.proofs.Common.{◌≡◌, [], replicate}
use Rattle.netlist_store.proofs.name_maps.empty_shards.Given as goal

abbrev pub invariant-loop-i : goal.invariant-loop-i
invariant-loop-i l = (l.shards ≡ replicate l._i []) × (l.empty ≡ [])
