use Rattle.std.proofs.Common.{◌≡◌, vec_len}
use Rattle.pin_graph.proofs.MergeLaws.{AreSoFar}
use Rattle.pin_graph.proofs.merging.merged.Given as goal

abbrev pub invariant-loop-node : goal.invariant-loop-node
invariant-loop-node l = record {
  merged : AreSoFar l.n l.raw l.node l.arcs;
  long : vec_len l.places ≡ l.n;
}
