use Rattle.std.proofs.Common.{◌≡◌, drop}
use Rattle.worst_walks.specs.Walks.{delay_in}
use Rattle.path_search.proofs.shown.delay_from.Given as goal

abbrev pub invariant-loop-arc : goal.invariant-loop-arc
invariant-loop-arc l = delay_in l.arcs l.from ≡ delay_in (drop l.arc-index l.arcs) l.from
