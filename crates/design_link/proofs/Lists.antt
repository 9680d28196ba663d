-- Lists of different items that have the same members.

use Rattle.std.proofs.Common.{◌≡◌, ℕ, suc, ◌≤◌, Bool, true, false, not, List, [], ◌∷◌, map, filter, length, refl, sym, ap, ◌∙◌, inl, inr, arith}
use Rattle.std.specs.Prelude.{find, is_some, ◌&&◌, if◌then◌else◌}
use Rattle.std.specs.List.{list_any}
use Rattle.std.specs.Str.{bytes_eq}
use Rattle.std.proofs.lemmas.Bool.{cases_Bool, false≢true, and_parts, and_from, or_parts, or_cases, or_from, or_left, or_right, not-true, not_from_false, false_from_ne_true}
use Rattle.timing_defs.specs.Netlist.{is_listed, are_distinct}
use Rattle.timing_defs.specs.Documents.{differ}
use Rattle.timing_defs.proofs.SameNames.{same_is, same_self}

pub bool_iff : (a b : Bool) → (a ≡ true → b ≡ true) → (b ≡ true → a ≡ true) → a ≡ b
bool_iff true b f g = sym (f refl)
bool_iff false true f g = g refl
bool_iff false false f g = refl

and_none : (b : Bool) → (b && false) ≡ false
and_none true = refl
and_none false = refl

and_all : (b : Bool) → (b && true) ≡ b
and_all true = refl
and_all false = refl

module _ {X : Type 0} (eq : X → X → Bool) (is : (x y : X) → eq x y ≡ true → x ≡ y) (own : (x : X) → eq x x ≡ true) where
  -- a list without the first item that is this one
  abbrev removed : X → List X → List X
  removed x [] = []
  removed x (y ∷ ys) = (if eq x y then ys else y ∷ removed x ys)

  one_less : (x : X) (ys : List X) → list_any (eq x) ys ≡ true → length ys ≡ suc (length (removed x ys))
  one_less x [] h = absurd (false≢true h)
  one_less x (y ∷ ys) h = elim (cases_Bool (eq x y)) [
    | inl e ↦ rw e refl
    | inr e ↦ let rest : list_any (eq x) ys ≡ true = rw e at h in rw e (ap suc (one_less x ys rest))
  ]

  still_in : (x q : X) (ys : List X) → eq q x ≡ false → list_any (eq q) ys ≡ true → list_any (eq q) (removed x ys) ≡ true
  still_in x q [] n h = absurd (false≢true h)
  still_in x q (y ∷ ys) n h = elim (cases_Bool (eq x y)) [
    | inl e ↦
        let away : eq q y ≡ false = ap (eq q) (sym (is x y e)) ∙ n in
        let rest : list_any (eq q) ys ≡ true = rw away at h in
        rw e rest
    | inr e ↦ rw e (elim (or_cases (eq q y) (list_any (eq q) ys) h) [
      | inl f ↦ or_left (eq q y) (list_any (eq q) (removed x ys)) f
      | inr f ↦ or_right (eq q y) (list_any (eq q) (removed x ys)) (still_in x q ys n f)
    ])
  ]

  -- different items that all stand in a list are no more than it has
  pub shorter : (xs ys : List X) → differ eq xs ≡ true → ((q : X) → list_any (eq q) xs ≡ true → list_any (eq q) ys ≡ true) → length xs ≤ length ys
  shorter [] ys d h = omega arith
  shorter (x ∷ xs) ys d h =
      let parts = and_parts (not (list_any (eq x) xs)) (differ eq xs) d in
      let less = one_less x ys (h x (or_left (eq x x) (list_any (eq x) xs) (own x))) in
      let rest : length xs ≤ length (removed x ys) =
      shorter xs (removed x ys) parts.1 (λ q c. still_in x q ys (away q c parts.0) (h q (or_right (eq q x) (list_any (eq q) xs) c))) in
      omega arith
    where
      away : (q : X) → list_any (eq q) xs ≡ true → not (list_any (eq x) xs) ≡ true → eq q x ≡ false
      away q c once =
          false_from_ne_true (eq q x) (λ e.
          false≢true (sym (not-true (list_any (eq x) xs) once) ∙ ap (λ y. list_any (eq y) xs) (sym (is q x e)) ∙ c))

  pub same_length : (xs ys : List X) → differ eq xs ≡ true → differ eq ys ≡ true → ((q : X) → list_any (eq q) xs ≡ list_any (eq q) ys)
      → length xs ≡ length ys
  same_length xs ys d e h =
      let one = shorter xs ys d (λ q c. sym (h q) ∙ c) in
      let two = shorter ys xs e (λ q c. h q ∙ c) in
      omega arith

differ_names : (names : List (List ℕ)) → differ bytes_eq names ≡ are_distinct names
differ_names [] = refl
differ_names (n ∷ ns) = ap (λ b. not (is_listed ns n) && b) (differ_names ns)

pub same_names : (xs ys : List (List ℕ)) → are_distinct xs ≡ true → are_distinct ys ≡ true → ((q : List ℕ) → is_listed xs q ≡ is_listed ys q)
    → length xs ≡ length ys
same_names xs ys d e h = same_length bytes_eq same_is same_self xs ys (differ_names xs ∙ d) (differ_names ys ∙ e) h

pub same_flips : (a b : List ℕ) → bytes_eq a b ≡ bytes_eq b a
same_flips a b =
    bool_iff (bytes_eq a b) (bytes_eq b a) (λ e. ap (λ x. bytes_eq x a) (sym (same_is a b e)) ∙ same_self a)
    (λ e. ap (λ x. bytes_eq x b) (sym (same_is b a e)) ∙ same_self b)

-- the names of a list that pass a test
pub listed_filter : (test : List ℕ → Bool) (xs : List (List ℕ)) (q : List ℕ) → is_listed (filter test xs) q ≡ (is_listed xs q && test q)
listed_filter test [] q = refl
listed_filter test (x ∷ xs) q = by (test x) refl (bytes_eq q x) refl (listed_filter test xs q)
  where
    by : (t : Bool) → test x ≡ t → (e : Bool) → bytes_eq q x ≡ e → is_listed (filter test xs) q ≡ (is_listed xs q && test q)
        → is_listed (filter test (x ∷ xs)) q ≡ (is_listed (x ∷ xs) q && test q)
    by true h true e rest = let f : test q ≡ true = ap test (same_is q x e) ∙ h in rw (h, e, f) refl
    by true h false e rest = rw (h, e) rest
    by false h true e rest = let f : test q ≡ false = ap test (same_is q x e) ∙ h in rw (h, e, f) (rest ∙ ap (λ b. is_listed xs q && b) f ∙ and_none (is_listed xs q))
    by false h false e rest = rw (h, e) rest

module _ {X : Type 0} (name : X → List ℕ) where
  -- what is found by its name is listed
  pub found_listed : (xs : List X) (q : List ℕ) → is_some (find (λ x. bytes_eq (name x) q) xs) ≡ is_listed (map name xs) q
  found_listed [] q = refl
  found_listed (x ∷ xs) q = by (bytes_eq (name x) q) refl (found_listed xs q)
    where
      by : (b : Bool) → bytes_eq (name x) q ≡ b → is_some (find (λ y. bytes_eq (name y) q) xs) ≡ is_listed (map name xs) q
          → is_some (find (λ y. bytes_eq (name y) q) (x ∷ xs)) ≡ is_listed (map name (x ∷ xs)) q
      by true e rest = let f : bytes_eq q (name x) ≡ true = same_flips q (name x) ∙ e in rw (e, f) refl
      by false e rest = let f : bytes_eq q (name x) ≡ false = same_flips q (name x) ∙ e in rw (e, f) rest

  pub unlisted_is : (keep : X → Bool) (xs : List X) (q : List ℕ) → is_listed (map name xs) q ≡ false → is_listed (map name (filter keep xs)) q ≡ false
  unlisted_is keep [] q h = refl
  unlisted_is keep (x ∷ xs) q h =
      let k = or_parts (bytes_eq q (name x)) (is_listed (map name xs) q) h in
      let rest = unlisted_is keep xs q k.1 in
      elim (cases_Bool (keep x)) [
        | inl e ↦ rw e (or_from (bytes_eq q (name x)) (is_listed (map name (filter keep xs)) q) k.0 rest)
        | inr e ↦ rw e rest
      ]

  pub distinct_filter : (keep : X → Bool) (xs : List X) → are_distinct (map name xs) ≡ true → are_distinct (map name (filter keep xs)) ≡ true
  distinct_filter keep [] h = refl
  distinct_filter keep (x ∷ xs) h =
      let k = and_parts (not (is_listed (map name xs) (name x))) (are_distinct (map name xs)) h in
      let rest = distinct_filter keep xs k.1 in
      let once = unlisted_is keep xs (name x) (not-true (is_listed (map name xs) (name x)) k.0) in
      elim (cases_Bool (keep x)) [
        | inl e ↦ rw e (and_from (not (is_listed (map name (filter keep xs)) (name x))) (are_distinct (map name (filter keep xs))) (not_from_false _ once) rest)
        | inr e ↦ rw e rest
      ]
