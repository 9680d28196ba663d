use Rattle.std.proofs.Common.{◌≡◌, drop}
use Rattle.std.specs.Cmp.Lexicographic.{pointwise}
use Rattle.timing_defs.specs.Edits.{same_arc}
use Rattle.pin_graph.proofs.keeping.same_arcs.Given as goal

abbrev pub invariant-loop-arc : goal.invariant-loop-arc
invariant-loop-arc l = pointwise same_arc (drop l.arc-index l.a) l.rest ≡ pointwise same_arc l.a l.initial.rest
