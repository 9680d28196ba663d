use Rattle.std.proofs.Common.{◌≡◌, ℕ, take, length}
use Rattle.std.specs.Prelude.{slice_index}
use Rattle.path_search.specs.Ranks.{places_before}
use Rattle.through_paths.specs.Passing.{begun_at}
use Rattle.through_paths.proofs.BegunLaws.{noted}
use Rattle.through_paths.proofs.begun.note_launches.Given as goal

abbrev pub invariant-loop-launch : goal.invariant-loop-launch
invariant-loop-launch l =
    (length l.begun ≡ length l.initial.begun)
    × ((n : ℕ) → slice_index l.begun n ≡ noted (begun_at (places_before l.order.graph.now l.order.nodes.now) l.order.nodes.now l.wanted) (take l.launch-index l.launches) l.initial.begun n)
