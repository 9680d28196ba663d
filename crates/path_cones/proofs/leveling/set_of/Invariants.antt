use Rattle.std.proofs.Common.{◌≡◌, [], drop, map}
use Rattle.std.specs.Prelude.{nat_eq}
use Rattle.indexmap.specs.IndexSet.{insert_all}
use Rattle.path_cones.specs.Reaching.{node_of}
use Rattle.path_cones.proofs.leveling.set_of.Given as goal

abbrev pub invariant-loop-leveled : goal.invariant-loop-leveled
invariant-loop-leveled l = insert_all nat_eq l.made.keys (map node_of (drop l.leveled-index l.nodes)) ≡ insert_all nat_eq [] (map node_of l.nodes)
