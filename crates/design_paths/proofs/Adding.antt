-- The worst paths of one endpoint more.

use Rattle.std.proofs.Common.{◌≡◌, ◌⊎◌, ℕ, zero, suc, List, [], ◌∷◌, ◌++◌, map, sym, subst, inl, inr}
use Rattle.std.specs.List.{Contains}
use Rattle.std.proofs.lemmas.List.Elements.{Contains-append_left, Contains-append_right, Contains-append_cases}
use Rattle.timing_defs.specs.declared.kinds.Kind.{Kind}
use Rattle.timing_defs.specs.declared.design.Design.{Design}
use Rattle.timing_defs.specs.declared.rows.Path.{Path}
use Rattle.timing_defs.specs.Firsts.{AreFirst}
use Rattle.timing_defs.proofs.Members.{first_in, in_cases, none_in}
use Rattle.timing_rules.specs.Tests.{Test}
use Rattle.timing_rules.specs.Paths.{Holds}
use Rattle.timing_rules.specs.Ranking.{Ranked, ranked, comes_before, IsRanked, AreWorstPaths}
use Rattle.design_paths.specs.Kept.{kept_all}
use Rattle.design_paths.specs.Seen.{IsOf, AreOf, AreAdded}
use Rattle.design_paths.proofs.FirstLists.{kept_by, same_first, is_first, apart_first, one_first, kept_first}
use Rattle.design_paths.proofs.PathOrder.{path_order}
use Rattle.design_paths.proofs.Keeping.{ranked_kept, kept_in_all}
use Rattle.design_paths.proofs.EndLists.{one_end}

module _ (d : Design) (kind : Kind) (count each : ℕ) where
  -- of no endpoint there is none
  pub of_none : AreOf d kind count each [] []
  of_none = (λ p c. absurd (none_in p c), none count)
    where
      none : (n : ℕ) → AreFirst comes_before n (IsOf d kind each []) []
      none zero = tt
      none (suc n) = λ r is. none_in is.0 is.2

  module _ (pins : List (List ℕ)) (pin : List ℕ) (kept paths : List Path) (of : AreOf d kind count each pins kept) (fresh : Contains pins pin → ⊥)
      (worst : AreWorstPaths d kind pin each paths) where
    forth : (r : Ranked) → IsOf d kind each pins r ⊎ Contains (map ranked paths) r → IsOf d kind each (pins ++ pin ∷ []) r
    forth r o = elim o [
      | inl (p, ends, c, f, k) ↦ (p, ends, Contains-append_left pins (pin ∷ []) p c, f, k)
      | inr c ↦ (pin, map ranked paths, Contains-append_right pins (pin ∷ []) pin (first_in pin []), worst.1, c)
    ]

    of_last : (p : List ℕ) (ends : List Ranked) (r : Ranked) → pin ≡ p → AreFirst comes_before each (IsRanked d kind p) ends → Contains ends r
        → Contains (map ranked paths) r
    of_last p ends r same f k =
        let mine = subst (λ (w : List ℕ). AreFirst comes_before each (IsRanked d kind w) ends) (sym same) f in
        subst (λ (xs : List Ranked). Contains xs r)
        (one_first comes_before path_order each (IsRanked d kind pin) ends (map ranked paths) mine worst.1) k

    back : (r : Ranked) → IsOf d kind each (pins ++ pin ∷ []) r → IsOf d kind each pins r ⊎ Contains (map ranked paths) r
    back r (p, ends, c, f, k) = elim (Contains-append_cases pins (pin ∷ []) p c) [
      | inl b ↦ inl (p, ends, b, f, k)
      | inr l ↦ elim (in_cases pin [] p l) [
        | inl same ↦ inr (of_last p ends r same f k)
        | inr n ↦ absurd (none_in p n)
      ]
    ]

    disjoint : (r : Ranked) → Contains (map ranked paths) r → IsOf d kind each pins r → ⊥
    disjoint r c (p, ends, b, f, k) =
        let mine = (is_first comes_before each (IsRanked d kind pin) (map ranked paths) worst.1 r c).0 in
        let theirs = (is_first comes_before each (IsRanked d kind p) ends f r k).0 in
        fresh (subst (λ (w : List ℕ). Contains pins w) (one_end r.1 p pin theirs mine) b)

    held : (p : Path) → Contains (kept_all count kept paths) p → (test : Test) × Holds d kind p test
    held p c = elim (kept_in_all count kept paths p c) [ inl b ↦ of.0 p b | inr n ↦ worst.0 p n ]

    first : AreFirst comes_before count (IsOf d kind each (pins ++ pin ∷ [])) (map ranked (kept_all count kept paths))
    first =
        subst (AreFirst comes_before count (IsOf d kind each (pins ++ pin ∷ []))) (sym (ranked_kept count kept paths))
        (same_first comes_before count (λ r. IsOf d kind each pins r ⊎ Contains (map ranked paths) r) (IsOf d kind each (pins ++ pin ∷ []))
        (kept_by comes_before count (map ranked kept) (map ranked paths)) forth back
        (kept_first comes_before path_order count (IsOf d kind each pins) (map ranked kept) (map ranked paths)
        (apart_first comes_before each (IsRanked d kind pin) (map ranked paths) worst.1) disjoint of.1))

  -- of the endpoints before and a fresh one
  pub added : (pins : List (List ℕ)) (pin : List ℕ) (kept after : List Path) → AreOf d kind count each pins kept → (Contains pins pin → ⊥)
      → AreAdded d kind count each pin kept after → AreOf d kind count each (pins ++ pin ∷ []) after
  added pins pin kept after of fresh (paths, worst, e) =
      subst (AreOf d kind count each (pins ++ pin ∷ [])) (sym e)
      (held pins pin kept paths of fresh worst, first pins pin kept paths of fresh worst)
