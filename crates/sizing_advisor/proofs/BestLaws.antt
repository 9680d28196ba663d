-- The best of some candidates, and the steps of their trials, with one candidate more.

use Rattle.std.proofs.Common.{◌≡◌, ℕ, ℤ, ◌+◌, ◌-◌, ◌≤◌, true, List, [], ◌∷◌, ◌++◌, map, Option, None, refl, sym, ap, subst, ◌∙◌, arith}
use Rattle.sta_units.specs.declared.units.Fs.{Fs}
use Rattle.timing_defs.specs.declared.kinds.Kind.{Kind}
use Rattle.timing_defs.specs.declared.design.Design.{Design}
use Rattle.timing_defs.specs.declared.reports.Candidate.{Candidate}
use Rattle.timing_defs.specs.declared.reports.Advice.{Advice}
use Rattle.timing_rules.specs.Advice.{candidate_eco, IsValue, AreValues, better, best_from}
use Rattle.timing_rules.specs.Cones.{IsCounted, AreCounted}
use Rattle.sizing_advisor.specs.declared.choices.Best.{Best}
use Rattle.sizing_advisor.specs.Trying.{as_number, as_advice, IsTried, IsBest}

values_more : (d : Design) (kind : Kind) (cs : List Candidate) (values : List (Option ℤ)) (c : Candidate) (value : Option ℤ)
    → AreValues d kind cs values → IsValue d kind c value → AreValues d kind (cs ++ c ∷ []) (values ++ value ∷ [])
values_more d kind [] [] c value tried new = (new, tt)
values_more d kind [] (w ∷ ws) c value tried new = absurd tried
values_more d kind (x ∷ xs) [] c value tried new = absurd tried
values_more d kind (x ∷ xs) (w ∷ ws) c value tried new = (tried.0, values_more d kind xs ws c value tried.1 new)

best_more : (d : Design) (kind : Kind) (best : Option Advice) (cs : List Candidate) (values : List (Option ℤ)) (c : Candidate) (value : Option ℤ)
    → AreValues d kind cs values → best_from best (cs ++ c ∷ []) (values ++ value ∷ []) ≡ better (best_from best cs values) c value
best_more d kind best [] [] c value tried = refl
best_more d kind best [] (w ∷ ws) c value tried = absurd tried
best_more d kind best (x ∷ xs) [] c value tried = absurd tried
best_more d kind best (x ∷ xs) (w ∷ ws) c value tried = best_more d kind (better best x w) xs ws c value tried.1

counted_more : (d : Design) (cs : List Candidate) (c : Candidate) (n m : ℕ) → AreCounted d (map candidate_eco cs) n → IsCounted d (candidate_eco c) true m
    → AreCounted d (map candidate_eco (cs ++ c ∷ [])) (n + m)
counted_more d [] c n m none new = (m, 0, new, refl, omega (arith, none))
counted_more d (x ∷ xs) c n m counted new =
    (counted.0, counted.1 + m, counted.2, counted_more d xs c counted.1 m counted.3 new, omega (arith, counted.4))

-- no candidate yet
pub best_none : (d : Design) (kind : Kind) (n : ℕ) → IsBest d kind [] None n n
best_none d kind n = record {
  values = [];
  tried = tt;
  chosen = refl;
  rises = omega arith;
  counted = omega arith;
}

-- one candidate more
pub best_with : (d : Design) (kind : Kind) (cs : List Candidate) (best : Option Best) (old mid : ℕ) → IsBest d kind cs best old mid
    → (c : Candidate) (value : Option Fs) (next : Option Best) (new : ℕ) → IsTried d kind c value → as_advice next ≡ better (as_advice best) c (as_number value)
    → mid ≤ new → IsCounted d (candidate_eco c) true (new - mid) → IsBest d kind (cs ++ c ∷ []) next old new
best_with d kind cs best old mid b c value next new tried same up counted = record {
  values = b.values ++ as_number value ∷ [];
  tried = values_more d kind cs b.values c (as_number value) b.tried tried;
  chosen = same ∙ ap (λ (a : Option Advice). better a c (as_number value)) b.chosen ∙ sym (best_more d kind None cs b.values c (as_number value) b.tried);
  rises = omega (arith, b.rises, up);
  counted =
      subst (λ (n : ℕ). AreCounted d (map candidate_eco (cs ++ c ∷ [])) n) (omega (arith, b.rises, up))
      (counted_more d cs c (mid - old) (new - mid) b.counted counted);
}
