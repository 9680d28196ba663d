-- One stage more.

use Rattle.std.proofs.Common.{◌≡◌, ℕ, ◌+◌, ◌<◌, ℤ, List, [], ◌∷◌, ◌++◌, length, take, get_or, Option, None, Some, refl, sym, ap, ◌∙◌}
use Rattle.std.proofs.lemmas.List.{take_more}
use Rattle.timing_defs.specs.declared.kinds.Split.{Split}
use Rattle.timing_defs.specs.declared.rows.PathNode.{PathNode}
use Rattle.timing_defs.specs.declared.closing.PathStage.{PathStage}
use Rattle.timing_defs.specs.declared.design.Design.{Design}
use Rattle.timing_rules.specs.Paths.{Named}
use Rattle.timing_rules.specs.Stages.{named_node, stage_at, stages_from, stages}
use Rattle.timed_paths.specs.Numbers.{last_named}

stages_append : (d : Design) (split : Split) (before : Option Named) (ns : List PathNode) (x : PathNode)
    → stages_from d split before (ns ++ x ∷ []) ≡ stages_from d split before ns ++ stage_at d split (last_named before ns) x ∷ []
stages_append d split before [] x = refl
stages_append d split before (n ∷ ns) x = ap (λ (xs : List PathStage). stage_at d split before n ∷ xs) (stages_append d split (Some (named_node n)) ns x)

last_append : (before : Option Named) (ns : List PathNode) (x : PathNode) → last_named before (ns ++ x ∷ []) ≡ Some (named_node x)
last_append before [] x = refl
last_append before (n ∷ ns) x = last_append (Some (named_node n)) ns x

module _ (nodes : List PathNode) (i : ℕ) (x : PathNode) (low : i < length nodes) (at : x ≡ get_or nodes i x) where
  longer : take (i + 1) nodes ≡ take i nodes ++ x ∷ []
  longer = take_more nodes i x low ∙ ap (λ (y : PathNode). take i nodes ++ y ∷ []) (sym at)

  pub last_more : last_named None (take (i + 1) nodes) ≡ Some (named_node x)
  last_more = ap (last_named None) longer ∙ last_append None (take i nodes) x

  pub stages_more : (d : Design) (split : Split) (made more : List PathStage) (stage : PathStage) → made ≡ stages d split (take i nodes)
      → stage ≡ stage_at d split (last_named None (take i nodes)) x → more ≡ made ++ stage ∷ [] → more ≡ stages d split (take (i + 1) nodes)
  stages_more d split made more stage had its put =
      put ∙ (λ k. had k ++ its k ∷ []) ∙ sym (ap (stages_from d split None) longer ∙ stages_append d split None (take i nodes) x)
