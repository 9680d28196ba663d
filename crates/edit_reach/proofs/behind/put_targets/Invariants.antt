use Rattle.std.proofs.Common.{◌≡◌, map, drop}
use Rattle.std.specs.Prelude.{nat_eq}
use Rattle.indexmap.specs.IndexSet.{insert_all}
use Rattle.pin_graph.specs.Graphs.{to_of}
use Rattle.edit_reach.proofs.behind.put_targets.Given as goal

abbrev pub invariant-loop-arc : goal.invariant-loop-arc
invariant-loop-arc l = insert_all nat_eq l.found.keys (map to_of (drop l.arc-index l.arcs)) ≡ insert_all nat_eq l.initial.found.keys (map to_of l.arcs)
