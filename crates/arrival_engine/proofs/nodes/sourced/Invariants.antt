use Rattle.std.proofs.Common.{◌≡◌, ◌++◌, drop}
use Rattle.arrival_engine.specs.Analysed.{with_sources}
use Rattle.arrival_engine.proofs.nodes.sourced.Given as goal

abbrev pub invariant-loop-at : goal.invariant-loop-at
invariant-loop-at l = l.all ++ with_sources (drop l.at l.arcs) (drop l.at l.delays) ≡ with_sources l.arcs l.delays
