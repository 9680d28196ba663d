use Rattle.std.proofs.Common.{◌≡◌, List, [], ◌∷◌, Option, Some, None, refl, sym, ◌∙◌}
use Rattle.std.specs.Option.{unwrap_or}
use Rattle.sta_text.specs.declared.faults.Wrong.{Wrong}
use Rattle.sta_text.specs.Faults.{least_from}
use Rattle.sta_text.proofs.FaultsLemmas.{least_none}

same : (w : Wrong) (ws : List Wrong) → least_from None (w ∷ ws) ≡ least_from (Some w) ws
unfolding least_from
same w ws = refl

no_cons : (w : Wrong) (ws : List Wrong) → (w ∷ ws) ≡ [] → ⊥
no_cons w ws h = cc

there : (w d : Wrong) (ws : List Wrong) (found : Option Wrong) → least_from None (w ∷ ws) ≡ found → least_from None (w ∷ ws) ≡ Some (unwrap_or found d)
there w d ws None h = absurd (no_cons w ws (least_none (w ∷ ws) h))
there w d ws (Some x) h = h

-- a list with a fault has a least one
pub stands_still : (w d : Wrong) (ws : List Wrong) (found : Option Wrong) → found ≡ least_from (Some w) ws → least_from None (w ∷ ws) ≡ Some (unwrap_or found d)
stands_still w d ws found h = there w d ws found (same w ws ∙ sym h)
