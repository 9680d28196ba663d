-- The delays that the arcs into a node bring in both splits.

use Rattle.std.proofs.Common.{◌≡◌, List, [], ◌∷◌, map, refl, ap, ◌∙◌}
use Rattle.timing_defs.specs.declared.kinds.Split.TheVariants.{Early, Late}
use Rattle.netlist_store.specs.Numbering.{Stored}
use Rattle.node_rows.specs.declared.arcs.ArcValues.{ArcValues}
use Rattle.node_rows.specs.declared.delays.BothDelays.{BothDelays}
use Rattle.node_rows.specs.declared.settings.NodeAt.{NodeAt}
use Rattle.node_rows.specs.declared.settings.Before.{Before}
use Rattle.node_rows.specs.Evaluation.{told_values, told_delays, both_delays}

-- where what they bring is told, so are their delays
module _ (s : Stored) (at : NodeAt) where
  pairs_of : (before : List Before) → both_delays (map (told_values s Early at) before) (map (told_values s Late at) before) ≡ map (told_delays s at) before
  pairs_of [] = refl
  pairs_of (b ∷ before) = ap (λ ds. told_delays s at b ∷ ds) (pairs_of before)

  pub pairs_told : (before : List Before) (early late : List ArcValues) (delays : List BothDelays) → early ≡ map (told_values s Early at) before
      → late ≡ map (told_values s Late at) before → delays ≡ both_delays early late → delays ≡ map (told_delays s at) before
  pairs_told before early late delays e l d =
      d ∙ ap (λ vs. both_delays vs late) e ∙ ap (both_delays (map (told_values s Early at) before)) l ∙ pairs_of before
