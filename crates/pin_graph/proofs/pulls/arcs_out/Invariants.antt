use Rattle.std.proofs.Common.{◌≡◌, ◌==◌, filter, take}
use Rattle.pin_graph.proofs.pulls.arcs_out.Given as goal

abbrev pub invariant-loop-arc : goal.invariant-loop-arc
invariant-loop-arc l = l.found ≡ filter (λ arc. arc.from == l.pin) (take l.arc-index l.arcs)
