-- The worst walk of the layered cone is the worst walk through the stops.

use Rattle.std.proofs.Common.{◌≡◌, ℕ, ◌<◌, ℤ, Bool, true, false, if◌then◌else◌, List, length, Option, Some, None, refl, sym, ap, ◌∙◌, arith}
use Rattle.std.specs.Prelude.{All, option_map}
use Rattle.std.specs.Ordering.{nat_cmp, is_gt}
use Rattle.std.specs.Cmp.Lexicographic.{slice_cmp}
use Rattle.std.proofs.lemmas.Option.{none-some}
use Rattle.worst_walks.specs.declared.cones.Cone.{Cone}
use Rattle.worst_walks.specs.declared.cones.Walk.{Walk}
use Rattle.worst_walks.specs.Walks.{most_nodes, count_of, slack_of, ranks_along, IsWalk, IsCone, IsAtMost, IsWorst}
use Rattle.worst_walks.proofs.Knowing.{walk_known}
use Rattle.through_walks.specs.declared.stops.Stop.{Stop}
use Rattle.through_walks.specs.Through.{passes, IsThroughWalk, IsWorstThrough}
use Rattle.through_walks.specs.Layers.{AreStages, IsLayered, rank_on, before_on, unlayered}
use Rattle.through_walks.proofs.Layering.{is_cone}
use Rattle.through_walks.proofs.Lifting.{layered, slack_layered, Staged, staged_back, ranks_layered}

-- a choice that has a slack
abbrev Chosen : Bool → Option ℤ → ℤ → Type 0
Chosen b o s = (o ≡ Some s) × (b ≡ true)

chosen : (b : Bool) (o : Option ℤ) (s : ℤ) → (if b then o else None) ≡ Some s → Chosen b o s
chosen true o s e = (e, refl)
chosen false o s e = absurd (none-some s e)

module _ (rank : ℕ → ℕ) (before : ℕ → List ℕ) (cone : Cone) (stops : List Stop) (begun : List ℕ) (k : ℕ) (layers : Cone) (good : IsCone cone)
    (known : length begun ≡ count_of cone) (stages : AreStages stops begun k) (h : IsLayered cone stops begun k layers) (few : count_of layers < most_nodes) where
  fine : IsCone layers
  fine = is_cone cone stops begun k layers good known stages h few

  nodes_low : (walk : Walk) → IsWalk cone walk → All (λ n. n < count_of cone) walk.nodes
  nodes_low walk is = walk_known rank before (count_of cone) cone good (omega arith) walk is

  ranks_alike : (walk : Walk) → All (λ n. n < count_of cone) walk.nodes
      → ranks_along (rank_on k (count_of layers) rank) (before_on k (count_of layers) before) (layered stops begun k walk) ≡ ranks_along rank before walk
  ranks_alike walk lows = ranks_layered stops begun k (count_of cone) (count_of layers) rank before known h.count stages walk.nodes lows

  -- a walk through the stops at its stages
  lifted : (walk : Walk) → IsThroughWalk cone stops begun walk → IsWalk layers (layered stops begun k walk)
  lifted walk t =
      slack_layered cone stops begun k layers good known stages h walk (nodes_low walk t.0)
      ∙ ap (λ b. if b then slack_of cone walk else None) t.1 ∙ t.0

  -- the walk under a layered one
  lowered : (walk : Walk) → IsWalk layers walk → Staged cone stops begun k layers good known stages h walk.nodes → IsThroughWalk cone stops begun (unlayered k walk)
  lowered walk is at =
      chosen (passes stops begun (unlayered k walk).nodes) (slack_of cone (unlayered k walk)) walk.slack
      (sym (slack_layered cone stops begun k layers good known stages h (unlayered k walk) at.lows)
      ∙ ap (λ ns. slack_of layers (record { slack = walk.slack; launch = walk.launch; end = walk.end; nodes = ns })) (sym at.is)
      ∙ is)

  at_most : (worst walk : Walk) → IsWalk layers worst → IsThroughWalk cone stops begun walk
      → IsAtMost (rank_on k (count_of layers) rank) (before_on k (count_of layers) before) worst (layered stops begun k walk)
      → IsAtMost rank before (unlayered k worst) walk
  at_most worst walk is t most =
      let at = staged_back cone stops begun k layers good known stages h worst fine is in
      let mine : ranks_along (rank_on k (count_of layers) rank) (before_on k (count_of layers) before) worst ≡ ranks_along rank before (unlayered k worst) =
      ap (λ ns. ranks_along (rank_on k (count_of layers) rank) (before_on k (count_of layers) before) (record { slack = worst.slack; launch = worst.launch; end = worst.end; nodes = ns })) at.is
      ∙ ranks_alike (unlayered k worst) at.lows in
      let other = ranks_alike walk (nodes_low walk t.0) in (
        most.0,
        λ same. sym (ap (λ xs. is_gt (slice_cmp nat_cmp xs (ranks_along (rank_on k (count_of layers) rank) (before_on k (count_of layers) before) (layered stops begun k walk)))) mine
            ∙ ap (λ ys. is_gt (slice_cmp nat_cmp (ranks_along rank before (unlayered k worst)) ys)) other) ∙ most.1 same,
      )

  pub worst_through : (o : Option Walk) → IsWorst (rank_on k (count_of layers) rank) (before_on k (count_of layers) before) layers o
      → IsWorstThrough rank before cone stops begun (option_map (unlayered k) o)
  worst_through None none = λ walk t. none (layered stops begun k walk) (lifted walk t)
  worst_through (Some worst) best = (
    lowered worst best.0 (staged_back cone stops begun k layers good known stages h worst fine best.0),
    λ walk t. at_most worst walk best.0 t (best.1 (layered stops begun k walk) (lifted walk t)),
  )
