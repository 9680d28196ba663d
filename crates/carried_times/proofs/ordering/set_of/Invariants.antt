use Rattle.std.proofs.Common.{◌≡◌, [], drop, map}
use Rattle.std.specs.Prelude.{nat_eq}
use Rattle.indexmap.specs.IndexSet.{insert_all}
use Rattle.carried_times.specs.Ordered.{node_of}
use Rattle.carried_times.proofs.ordering.set_of.Given as goal

abbrev pub invariant-loop-leveled : goal.invariant-loop-leveled
invariant-loop-leveled l = insert_all nat_eq l.found.keys (map node_of (drop l.leveled-index l.nodes)) ≡ insert_all nat_eq [] (map node_of l.nodes)
