use Rattle.std.proofs.Common.{take}
use Rattle.worst_walks.specs.Walks.{count_of}
use Rattle.path_search.specs.Ranks.{places_before}
use Rattle.through_paths.specs.Passing.{begun_at}
use Rattle.through_paths.proofs.BegunLaws.{AreNoted}
use Rattle.through_paths.proofs.begun.begun_in.Given as goal

abbrev pub invariant-loop-end : goal.invariant-loop-end
invariant-loop-end l =
    AreNoted (begun_at (places_before l.order.graph.now l.order.nodes.now) l.order.nodes.now l.wanted) (take l.end-index l.end-items) (count_of l.cone) l.begun.items
