-- Paths that are kept, by their slacks and nodes.

use Rattle.std.proofs.Common.{◌≡◌, ◌⊎◌, ℕ, zero, suc, ◌+◌, ◌<◌, ◌≤◌, Bool, true, false, if◌then◌else◌, List, [], ◌∷◌, ◌++◌, take, drop, map, length, get_or, refl, sym, ap, subst, ◌∙◌, inl, inr}
use Rattle.std.specs.List.{Contains, insert}
use Rattle.std.proofs.lemmas.List.{take-map, drop_more, drop_all, take_more, append_assoc}
use Rattle.timing_defs.specs.declared.rows.Path.{Path}
use Rattle.timing_defs.proofs.Members.{first_in, later_in, in_cases, none_in}
use Rattle.timing_rules.specs.Ranking.{ranked, comes_before}
use Rattle.design_paths.specs.Kept.{put, kept_all}
use Rattle.design_paths.proofs.FirstLists.{put_by, kept_by}

pub ranked_put : (p : Path) (qs : List Path) → map ranked (put p qs) ≡ put_by comes_before (ranked p) (map ranked qs)
ranked_put p [] = refl
ranked_put p (q ∷ qs) = by (comes_before (ranked p) (ranked q)) (ranked_put p qs)
  where
    by : (b : Bool) → map ranked (put p qs) ≡ put_by comes_before (ranked p) (map ranked qs)
        → map ranked (if b then p ∷ q ∷ qs else q ∷ put p qs) ≡ (if b then ranked p ∷ ranked q ∷ map ranked qs else ranked q ∷ put_by comes_before (ranked p) (map ranked qs))
    by true rest = refl
    by false rest = λ i. ranked q ∷ rest i

pub ranked_kept : (most : ℕ) (kept ps : List Path) → map ranked (kept_all most kept ps) ≡ kept_by comes_before most (map ranked kept) (map ranked ps)
ranked_kept most kept [] = refl
ranked_kept most kept (p ∷ ps) =
    ranked_kept most (take most (put p kept)) ps
    ∙ ap (λ rs. kept_by comes_before most rs (map ranked ps))
    (sym (take-map ranked most (put p kept)) ∙ ap (take most) (ranked_put p kept))

take_in : {X : Type 0} (n : ℕ) (xs : List X) (x : X) → Contains (take n xs) x → Contains xs x
take_in zero xs x c = absurd (none_in x c)
take_in (suc n) [] x c = absurd (none_in x c)
take_in (suc n) (y ∷ ys) x c = elim (in_cases y (take n ys) x c) [
  | inl e ↦ subst (λ w. Contains (y ∷ ys) w) e (first_in y ys)
  | inr d ↦ later_in y ys x (take_in n ys x d)
]

put_in : (p : Path) (qs : List Path) (x : Path) → Contains (put p qs) x → Contains qs x ⊎ (p ≡ x)
put_in p [] x c = elim (in_cases p [] x c) [ inl e ↦ inr e | inr d ↦ absurd (none_in x d) ]
put_in p (q ∷ qs) x c = by (comes_before (ranked p) (ranked q)) c (λ d. put_in p qs x d)
  where
    first : Contains (p ∷ q ∷ qs) x → Contains (q ∷ qs) x ⊎ (p ≡ x)
    first d = elim (in_cases p (q ∷ qs) x d) [ inl e ↦ inr e | inr f ↦ inl f ]

    more : Contains qs x ⊎ (p ≡ x) → Contains (q ∷ qs) x ⊎ (p ≡ x)
    more o = elim o [ inl d ↦ inl (later_in q qs x d) | inr e ↦ inr e ]

    other : Contains (q ∷ put p qs) x → (Contains (put p qs) x → Contains qs x ⊎ (p ≡ x)) → Contains (q ∷ qs) x ⊎ (p ≡ x)
    other d again = elim (in_cases q (put p qs) x d) [
      | inl e ↦ inl (subst (λ w. Contains (q ∷ qs) w) e (first_in q qs))
      | inr f ↦ more (again f)
    ]

    by : (b : Bool) → Contains (if b then p ∷ q ∷ qs else q ∷ put p qs) x → (Contains (put p qs) x → Contains qs x ⊎ (p ≡ x))
        → Contains (q ∷ qs) x ⊎ (p ≡ x)
    by true d again = first d
    by false d again = other d again

-- what is kept was there before or is new
pub kept_in_all : (most : ℕ) (kept ps : List Path) (x : Path) → Contains (kept_all most kept ps) x → Contains kept x ⊎ Contains ps x
kept_in_all most kept [] x c = inl c
kept_in_all most kept (p ∷ ps) x c = elim (kept_in_all most (take most (put p kept)) ps x c) [
  | inl d ↦ one (put_in p kept x (take_in most (put p kept) x d))
  | inr d ↦ inr (later_in p ps x d)
]
  where
    one : Contains kept x ⊎ (p ≡ x) → Contains kept x ⊎ Contains (p ∷ ps) x
    one o = elim o [ inl d ↦ inl d | inr e ↦ inr (subst (λ w. Contains (p ∷ ps) w) e (first_in p ps)) ]

-- the place of a path: behind those that it does not come before
pub put_step : (p : Path) (qs : List Path) (i : ℕ) (d : Path) → i < length qs → comes_before (ranked p) (ranked (get_or qs i d)) ≡ false
    → take i qs ++ put p (drop i qs) ≡ put p qs → take (i + 1) qs ++ put p (drop (i + 1) qs) ≡ put p qs
put_step p qs i d low never before =
    ap (λ xs. xs ++ put p (drop (i + 1) qs)) (take_more qs i d low)
    ∙ append_assoc (take i qs) (get_or qs i d ∷ []) (put p (drop (i + 1) qs))
    ∙ ap (λ xs. take i qs ++ xs)
    (sym (ap (λ (b : Bool). if b then p ∷ get_or qs i d ∷ drop (i + 1) qs else get_or qs i d ∷ put p (drop (i + 1) qs)) never))
    ∙ ap (λ xs. take i qs ++ put p xs) (sym (drop_more qs i d low))
    ∙ before

pub put_here : (p : Path) (qs : List Path) (i : ℕ) (d : Path) → i < length qs → comes_before (ranked p) (ranked (get_or qs i d)) ≡ true
    → take i qs ++ put p (drop i qs) ≡ put p qs → insert qs i p ≡ put p qs
put_here p qs i d low so before =
    ap (λ xs. take i qs ++ p ∷ xs) (drop_more qs i d low)
    ∙ ap (λ xs. take i qs ++ xs)
    (sym (ap (λ (b : Bool). if b then p ∷ get_or qs i d ∷ drop (i + 1) qs else get_or qs i d ∷ put p (drop (i + 1) qs)) so))
    ∙ ap (λ xs. take i qs ++ put p xs) (sym (drop_more qs i d low))
    ∙ before

pub put_last : (p : Path) (qs : List Path) (i : ℕ) → length qs ≤ i → take i qs ++ put p (drop i qs) ≡ put p qs → insert qs i p ≡ put p qs
put_last p qs i past before =
    ap (λ xs. take i qs ++ p ∷ xs) (drop_all i qs past)
    ∙ ap (λ xs. take i qs ++ put p xs) (sym (drop_all i qs past))
    ∙ before
