use Rattle.std.proofs.Common.{◌≡◌, filter, take}
use Rattle.pin_graph.specs.Relinking.{leads_elsewhere}
use Rattle.pin_graph.proofs.relinking.without.Given as goal

abbrev pub invariant-loop-arc : goal.invariant-loop-arc
invariant-loop-arc l = l.left ≡ filter (leads_elsewhere l.node) (take l.arc-index l.arcs)
