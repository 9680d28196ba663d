use Rattle.std.proofs.Common.{◌≡◌, drop}
use Rattle.std.specs.Map.{lookup}
use Rattle.std.specs.Str.{bytes_eq}
use Rattle.netlist_store.proofs.name_maps.number_in.Given as goal

abbrev pub invariant-loop-other : goal.invariant-loop-other
invariant-loop-other l = lookup (bytes_eq l.name) (drop l.other-index l.pairs) ≡ lookup (bytes_eq l.name) l.pairs
