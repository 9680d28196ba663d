-- Items, each once: those that were gone through, and those that are left.

use Rattle.std.proofs.Common.{◌≡◌, ℕ, ◌+◌, ◌<◌, ◌≤◌, Bool, true, false, ◌&&◌, ◌||◌, if◌then◌else◌, List, [], ◌∷◌, ◌++◌, drop, length, get_or, refl, sym, ap, ◌∙◌}
use Rattle.std.specs.List.{list_any}
use Rattle.std.specs.Str.{bytes_eq}
use Rattle.std.proofs.lemmas.List.{drop_more, drop_all, append-nil, append_assoc}
use Rattle.std.proofs.lemmas.List.Folds.{list_any-append}
use Rattle.timing_defs.specs.declared.reports.Candidate.{Candidate}
use Rattle.timing_defs.proofs.SameNames.{same-sym}
use Rattle.timing_rules.specs.SizeAdvice.{once, same_candidate}
use Rattle.size_advice.specs.Keeping.{EachApart, AreApart}

pub same_turned : (a b : Candidate) → same_candidate a b ≡ same_candidate b a
same_turned a b =
    ap (λ (x : Bool). x && bytes_eq a.cell b.cell) (same-sym a.inst b.inst)
    ∙ ap (λ (x : Bool). bytes_eq b.inst a.inst && x) (same-sym a.cell b.cell)

pub neither : (a b : Bool) → (a || b) ≡ false → (a ≡ false) × (b ≡ false)
neither true b e = absurd (cc)
neither false b e = (refl, e)

both_not : (a b : Bool) → a ≡ false → b ≡ false → (a || (b || false)) ≡ false
both_not true b e f = absurd (cc)
both_not false true e f = absurd (cc)
both_not false false e f = refl

either_way : (a b c : Bool) → c ≡ b → (a || c) ≡ (b || (a || false))
either_way true true c e = refl
either_way true false c e = refl
either_way false true c e = e
either_way false false c e = e

-- those that were gone through give these, and the others give the rest
pub record IsSoFar {X : Type 0} (same : X → X → Bool) (all left made : List X) : Type 0 where
  pub before : List X
  pub same_any : (x : X) → list_any (same x) before ≡ list_any (same x) made
  pub rest : made ++ once same before left ≡ once same [] all
  pub apart : EachApart same made

module _ {X : Type 0} (same : X → X → Bool) where
  pub so_far_none : (all : List X) → IsSoFar same all all []
  so_far_none all = record { before = []; same_any = λ x. refl; rest = refl; apart = tt }

module _ {X : Type 0} (same : X → X → Bool) (turned : (a b : X) → same a b ≡ same b a) where
  -- one more that is not there
  apart_more : (made : List X) (c : X) → EachApart same made → list_any (same c) made ≡ false → EachApart same (made ++ c ∷ [])
  apart_more [] c p none = (refl, tt)
  apart_more (m ∷ ms) c p none =
      let parts = neither (same c m) (list_any (same c) ms) none in (
        list_any-append (same m) ms (c ∷ []) ∙ both_not (list_any (same m) ms) (same m c) p.0 (turned m c ∙ parts.0),
        apart_more ms c p.1 parts.1,
      )

  module _ (all : List X) where
    seen : (c : X) (left made : List X) → IsSoFar same all (c ∷ left) made → list_any (same c) made ≡ true → IsSoFar same all left made
    seen c left made s there = record {
      before = s.before;
      same_any = s.same_any;
      rest =
          ap (λ (b : Bool). made ++ (if b then once same s.before left else c ∷ once same (c ∷ s.before) left)) (sym (s.same_any c ∙ there))
          ∙ s.rest;
      apart = s.apart;
    }

    fresh : (c : X) (left made : List X) → IsSoFar same all (c ∷ left) made → list_any (same c) made ≡ false → IsSoFar same all left (made ++ c ∷ [])
    fresh c left made s none = record {
      before = c ∷ s.before;
      same_any = λ x.
          (either_way (same x c) (list_any (same x) made) (list_any (same x) s.before) (s.same_any x)
          ∙ sym (list_any-append (same x) made (c ∷ [])));
      rest =
          append_assoc made (c ∷ []) (once same (c ∷ s.before) left)
          ∙ ap (λ (b : Bool). made ++ (if b then once same s.before left else c ∷ once same (c ∷ s.before) left)) (sym (s.same_any c ∙ none))
          ∙ s.rest;
      apart = apart_more made c s.apart none;
    }

    at : (i : ℕ) (c : X) (made : List X) → i < length all → c ≡ get_or all i c → IsSoFar same all (drop i all) made → IsSoFar same all (c ∷ drop (i + 1) all) made
    at i c made low is s = record {
      before = s.before;
      same_any = s.same_any;
      rest = ap (λ (xs : List X). made ++ once same s.before xs) (sym (drop_more all i c low ∙ ap (λ y. y ∷ drop (i + 1) all) (sym is))) ∙ s.rest;
      apart = s.apart;
    }

    seen_at : (i : ℕ) (c : X) (made : List X) → i < length all → c ≡ get_or all i c → IsSoFar same all (drop i all) made → list_any (same c) made ≡ true
        → IsSoFar same all (drop (i + 1) all) made
    seen_at i c made low is s there = seen c (drop (i + 1) all) made (at i c made low is s) there

    new_at : (i : ℕ) (c copy : X) (made more : List X) → i < length all → c ≡ get_or all i c → IsSoFar same all (drop i all) made → list_any (same c) made ≡ false
        → copy ≡ c → more ≡ made ++ copy ∷ [] → IsSoFar same all (drop (i + 1) all) more
    new_at i c copy made more low is s none e f =
        rw (f ∙ ap (λ (x : X). made ++ x ∷ []) e) (fresh c (drop (i + 1) all) made (at i c made low is s) none)

    done_at : (i : ℕ) (made : List X) → length all ≤ i → IsSoFar same all (drop i all) made → made ≡ once same [] all
    done_at i made past s =
        sym (append-nil made)
        ∙ ap (λ (xs : List X). made ++ once same s.before xs) (sym (drop_all i all past))
        ∙ s.rest

-- the same of candidates
module _ (all : List Candidate) where
  pub once_seen : (i : ℕ) (c : Candidate) (made : List Candidate) → i < length all → c ≡ get_or all i c → IsSoFar same_candidate all (drop i all) made
      → list_any (same_candidate c) made ≡ true → IsSoFar same_candidate all (drop (i + 1) all) made
  once_seen = seen_at same_candidate same_turned all

  pub once_new : (i : ℕ) (c copy : Candidate) (made more : List Candidate) → i < length all → c ≡ get_or all i c → IsSoFar same_candidate all (drop i all) made
      → list_any (same_candidate c) made ≡ false → copy ≡ c → more ≡ made ++ copy ∷ [] → IsSoFar same_candidate all (drop (i + 1) all) more
  once_new = new_at same_candidate same_turned all

  pub once_done : (i : ℕ) (made : List Candidate) → length all ≤ i → IsSoFar same_candidate all (drop i all) made → made ≡ once same_candidate [] all
  once_done = done_at same_candidate same_turned all

-- and of names
module _ (all : List (List ℕ)) where
  pub name_seen : (i : ℕ) (n : List ℕ) (made : List (List ℕ)) → i < length all → n ≡ get_or all i n → IsSoFar bytes_eq all (drop i all) made
      → list_any (bytes_eq n) made ≡ true → IsSoFar bytes_eq all (drop (i + 1) all) made
  name_seen = seen_at bytes_eq same-sym all

  pub name_new : (i : ℕ) (n copy : List ℕ) (made more : List (List ℕ)) → i < length all → n ≡ get_or all i n → IsSoFar bytes_eq all (drop i all) made
      → list_any (bytes_eq n) made ≡ false → copy ≡ n → more ≡ made ++ copy ∷ [] → IsSoFar bytes_eq all (drop (i + 1) all) more
  name_new = new_at bytes_eq same-sym all

  pub name_done : (i : ℕ) (made : List (List ℕ)) → length all ≤ i → IsSoFar bytes_eq all (drop i all) made → made ≡ once bytes_eq [] all
  name_done = done_at bytes_eq same-sym all
