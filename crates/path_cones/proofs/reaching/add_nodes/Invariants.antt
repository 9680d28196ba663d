use Rattle.std.proofs.Common.{◌≡◌, drop}
use Rattle.std.specs.Prelude.{nat_eq}
use Rattle.indexmap.specs.IndexSet.{insert_all}
use Rattle.path_cones.proofs.reaching.add_nodes.Given as goal

abbrev pub invariant-loop-node : goal.invariant-loop-node
invariant-loop-node l = insert_all nat_eq l.found.keys (drop l.node-index l.nodes) ≡ insert_all nat_eq l.initial.found.keys l.nodes
