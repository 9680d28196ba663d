-- Lists whose items all keep a property, and lists of names of which none stands twice.

use Rattle.std.proofs.Common.{◌≡◌, ℕ, Bool, true, false, List, [], ◌∷◌, ◌++◌, map, filter, length, None, Some, refl, sym, ap, ◌∙◌, inl, inr, not}
use Rattle.std.specs.Prelude.{◌&&◌, find, nat_eq, if◌then◌else◌}
use Rattle.std.specs.List.{list_all, list_any}
use Rattle.std.specs.Str.{bytes_eq}
use Rattle.std.proofs.lemmas.Bool.{cases_Bool, false≢true, true≢false, and_parts, and_from, or_parts, or_from, or_left, or_right, or_cases, not-true, not_from_false}
use Rattle.std.proofs.lemmas.List.{append_assoc}
use Rattle.timing_defs.specs.Netlist.{is_listed, are_distinct}
use Rattle.netlist_store.proofs.ShardLaws.{same_is, same_self}

-- one item more is taken from a list
pub one_taken : {X : Type 0} (xs front left rest : List X) (x : X) → xs ≡ front ++ left → left ≡ x ∷ rest → xs ≡ (front ++ x ∷ []) ++ rest
one_taken xs front left rest x e next = e ∙ ap (λ ys. front ++ ys) next ∙ sym (append_assoc front (x ∷ []) rest)

pub apart_sym : (a b : List ℕ) → bytes_eq a b ≡ false → bytes_eq b a ≡ false
apart_sym a b apart = elim (cases_Bool (bytes_eq b a)) [
  | inl h ↦ absurd (true≢false (sym (same_self a) ∙ ap (bytes_eq a) (sym (same_is b a h)) ∙ apart))
  | inr h ↦ h
]

module _ {X : Type 0} (p : X → Bool) where
  pub all_push : (xs : List X) (x : X) → list_all p xs ≡ true → p x ≡ true → list_all p (xs ++ x ∷ []) ≡ true
  all_push [] x all one = and_from (p x) true one refl
  all_push (y ∷ ys) x all one =
      let h = and_parts (p y) (list_all p ys) all in and_from (p y) (list_all p (ys ++ x ∷ [])) h.0 (all_push ys x h.1 one)

  -- the items that stay keep p, where all had q
  pub all_kept : (q keep : X → Bool) (xs : List X) → ((x : X) → q x ≡ true → keep x ≡ true → p x ≡ true) → list_all q xs ≡ true
      → list_all p (filter keep xs) ≡ true
  all_kept q keep [] each all = refl
  all_kept q keep (x ∷ xs) each all =
      let h = and_parts (q x) (list_all q xs) all in
      let rest = all_kept q keep xs each h.1 in
      elim (cases_Bool (keep x)) [
        | inl e ↦ rw e (and_from (p x) (list_all p (filter keep xs)) (each x h.0 e) rest)
        | inr e ↦ rw e rest
      ]

  pub all_changed : (q : X → Bool) (change : X → X) (xs : List X) → ((x : X) → q x ≡ true → p (change x) ≡ true) → list_all q xs ≡ true
      → list_all p (map change xs) ≡ true
  all_changed q change [] each all = refl
  all_changed q change (x ∷ xs) each all =
      let h = and_parts (q x) (list_all q xs) all in
      and_from (p (change x)) (list_all p (map change xs)) (each x h.0) (all_changed q change xs each h.1)

  pub all_weaker : (q : X → Bool) (xs : List X) → ((x : X) → q x ≡ true → p x ≡ true) → list_all q xs ≡ true → list_all p xs ≡ true
  all_weaker q [] each all = refl
  all_weaker q (x ∷ xs) each all =
      let h = and_parts (q x) (list_all q xs) all in and_from (p x) (list_all p xs) (each x h.0) (all_weaker q xs each h.1)

  pub all_both : (q : X → Bool) (xs : List X) → list_all p xs ≡ true → list_all q xs ≡ true → list_all (λ x. p x && q x) xs ≡ true
  all_both q [] one two = refl
  all_both q (x ∷ xs) one two =
      let h = and_parts (p x) (list_all p xs) one in
      let k = and_parts (q x) (list_all q xs) two in
      and_from (p x && q x) (list_all (λ x. p x && q x) xs) (and_from (p x) (q x) h.0 k.0) (all_both q xs h.1 k.1)

-- a list of names that grows
pub listed_push : (names : List (List ℕ)) (name q : List ℕ) → is_listed names q ≡ true → is_listed (names ++ name ∷ []) q ≡ true
listed_push [] name q h = absurd (false≢true h)
listed_push (n ∷ ns) name q h = elim (or_cases (bytes_eq q n) (is_listed ns q) h) [
  | inl e ↦ or_left (bytes_eq q n) (is_listed (ns ++ name ∷ []) q) e
  | inr e ↦ or_right (bytes_eq q n) (is_listed (ns ++ name ∷ []) q) (listed_push ns name q e)
]

pub listed_last : (names : List (List ℕ)) (name : List ℕ) → is_listed (names ++ name ∷ []) name ≡ true
listed_last [] name = or_left (bytes_eq name name) false (same_self name)
listed_last (n ∷ ns) name = or_right (bytes_eq name n) (is_listed (ns ++ name ∷ []) name) (listed_last ns name)

unlisted_push : (names : List (List ℕ)) (name q : List ℕ) → is_listed names q ≡ false → bytes_eq q name ≡ false → is_listed (names ++ name ∷ []) q ≡ false
unlisted_push [] name q h apart = or_from (bytes_eq q name) false apart refl
unlisted_push (n ∷ ns) name q h apart =
    let k = or_parts (bytes_eq q n) (is_listed ns q) h in
    or_from (bytes_eq q n) (is_listed (ns ++ name ∷ []) q) k.0 (unlisted_push ns name q k.1 apart)

pub distinct_push : (names : List (List ℕ)) (name : List ℕ) → are_distinct names ≡ true → is_listed names name ≡ false
    → are_distinct (names ++ name ∷ []) ≡ true
distinct_push [] name h free = refl
distinct_push (n ∷ ns) name h free =
    let k = and_parts (not (is_listed ns n)) (are_distinct ns) h in
    let f = or_parts (bytes_eq name n) (is_listed ns name) free in
    and_from (not (is_listed (ns ++ name ∷ []) n)) (are_distinct (ns ++ name ∷ []))
    (not_from_false (is_listed (ns ++ name ∷ []) n) (unlisted_push ns name n (not-true (is_listed ns n) k.0) (apart_sym name n f.0)))
    (distinct_push ns name k.1 f.1)

-- names that stay where one goes
pub listed_filter : (names : List (List ℕ)) (gone q : List ℕ) → is_listed names q ≡ true → bytes_eq q gone ≡ false
    → is_listed (filter (λ n. not (bytes_eq n gone)) names) q ≡ true
listed_filter [] gone q h apart = absurd (false≢true h)
listed_filter (n ∷ ns) gone q h apart = elim (cases_Bool (bytes_eq q n)) [
  | inl e ↦
      let stays : bytes_eq n gone ≡ false = ap (λ k. bytes_eq k gone) (sym (same_is q n e)) ∙ apart in
      rw stays (or_left (bytes_eq q n) (is_listed (filter (λ n. not (bytes_eq n gone)) ns) q) e)
  | inr e ↦ elim (or_cases (bytes_eq q n) (is_listed ns q) h) [
    | inl f ↦ absurd (true≢false (sym f ∙ e))
    | inr f ↦ elim (cases_Bool (bytes_eq n gone)) [
      | inl g ↦ rw g (listed_filter ns gone q f apart)
      | inr g ↦ rw g (or_right (bytes_eq q n) (is_listed (filter (λ n. not (bytes_eq n gone)) ns) q) (listed_filter ns gone q f apart))
    ]
  ]
]

module _ {X : Type 0} (name : X → List ℕ) where
  pub unlisted_filter : (keep : X → Bool) (xs : List X) (q : List ℕ) → is_listed (map name xs) q ≡ false → is_listed (map name (filter keep xs)) q ≡ false
  unlisted_filter keep [] q h = refl
  unlisted_filter keep (x ∷ xs) q h =
      let k = or_parts (bytes_eq q (name x)) (is_listed (map name xs) q) h in
      let rest = unlisted_filter keep xs q k.1 in
      elim (cases_Bool (keep x)) [
        | inl e ↦ rw e (or_from (bytes_eq q (name x)) (is_listed (map name (filter keep xs)) q) k.0 rest)
        | inr e ↦ rw e rest
      ]

  pub distinct_filter : (keep : X → Bool) (xs : List X) → are_distinct (map name xs) ≡ true → are_distinct (map name (filter keep xs)) ≡ true
  distinct_filter keep [] h = refl
  distinct_filter keep (x ∷ xs) h =
      let k = and_parts (not (is_listed (map name xs) (name x))) (are_distinct (map name xs)) h in
      let rest = distinct_filter keep xs k.1 in
      let once = unlisted_filter keep xs (name x) (not-true (is_listed (map name xs) (name x)) k.0) in
      elim (cases_Bool (keep x)) [
        | inl e ↦ rw e (and_from (not (is_listed (map name (filter keep xs)) (name x))) (are_distinct (map name (filter keep xs))) (not_from_false _ once) rest)
        | inr e ↦ rw e rest
      ]

  -- a change that keeps names
  pub same_names : (change : X → X) (xs : List X) → ((x : X) → name (change x) ≡ name x) → map name (map change xs) ≡ map name xs
  same_names change [] each = refl
  same_names change (x ∷ xs) each = ap (λ n. n ∷ map name (map change xs)) (each x) ∙ ap (λ ns. name x ∷ ns) (same_names change xs each)

  pub names_push : (xs : List X) (x : X) → map name (xs ++ x ∷ []) ≡ map name xs ++ name x ∷ []
  names_push [] x = refl
  names_push (y ∷ ys) x = ap (λ ns. name y ∷ ns) (names_push ys x)

  -- what is found by a name is listed
  pub found_listed : (xs : List X) (q : List ℕ) (x : X) → find (λ y. bytes_eq (name y) q) xs ≡ Some x → is_listed (map name xs) q ≡ true
  found_listed [] q x e = absurd (cc)
  found_listed (y ∷ ys) q x e = elim (cases_Bool (bytes_eq (name y) q)) [
    | inl h ↦ or_left (bytes_eq q (name y)) (is_listed (map name ys) q) (ap (bytes_eq q) (same_is (name y) q h) ∙ same_self q)
    | inr h ↦ or_right (bytes_eq q (name y)) (is_listed (map name ys) q) (found_listed ys q x (rw h at e))
  ]

  pub not_found_unlisted : (xs : List X) (q : List ℕ) → find (λ y. bytes_eq (name y) q) xs ≡ None → is_listed (map name xs) q ≡ false
  not_found_unlisted [] q e = refl
  not_found_unlisted (y ∷ ys) q e = elim (cases_Bool (bytes_eq (name y) q)) [
    | inl h ↦ let f = rw h at e in absurd (cc)
    | inr h ↦ or_from (bytes_eq q (name y)) (is_listed (map name ys) q) (apart_sym (name y) q h) (not_found_unlisted ys q (rw h at e))
  ]

  -- where the one item of a name changes, all keep what that one keeps
  pub all_changed_at : (p : X → Bool) (q : List ℕ) (change : X → X) (xs : List X) → are_distinct (map name xs) ≡ true → list_all p xs ≡ true
      → ((x : X) → find (λ y. bytes_eq (name y) q) xs ≡ Some x → p x ≡ true → p (change x) ≡ true)
      → list_all p (map (λ x. if bytes_eq (name x) q then change x else x) xs) ≡ true
  all_changed_at p q change [] distinct all here = refl
  all_changed_at p q change (x ∷ xs) distinct all here =
      let k = and_parts (not (is_listed (map name xs) (name x))) (are_distinct (map name xs)) distinct in
      let h = and_parts (p x) (list_all p xs) all in
      elim (cases_Bool (bytes_eq (name x) q)) [
        | inl e ↦
            let once : is_listed (map name xs) q ≡ false = ap (is_listed (map name xs)) (sym (same_is (name x) q e)) ∙ not-true (is_listed (map name xs) (name x)) k.0 in
            let rest = all_changed_at p q change xs k.1 h.1 (λ y f g. absurd (true≢false (sym (found_listed xs q y f) ∙ once))) in
            rw e (and_from (p (change x)) _ (here x (rw e refl) h.0) rest)
        | inr e ↦
            let rest = all_changed_at p q change xs k.1 h.1 (λ y f g. here y (rw e f) g) in
            rw e (and_from (p x) _ h.0 rest)
      ]

  pub any_unlisted : (xs : List X) (q : List ℕ) → list_any (λ x. bytes_eq (name x) q) xs ≡ false → is_listed (map name xs) q ≡ false
  any_unlisted [] q h = refl
  any_unlisted (x ∷ xs) q h =
      let k = or_parts (bytes_eq (name x) q) (list_any (λ x. bytes_eq (name x) q) xs) h in
      or_from (bytes_eq q (name x)) (is_listed (map name xs) q) (apart_sym (name x) q k.0) (any_unlisted xs q k.1)

  -- what is found by a test is found by its name
  pub found_by_name : (test : X → Bool) (xs : List X) (x : X) → are_distinct (map name xs) ≡ true → find test xs ≡ Some x
      → find (λ y. bytes_eq (name y) (name x)) xs ≡ Some x
  found_by_name test [] x distinct e = absurd (cc)
  found_by_name test (y ∷ ys) x distinct e = elim (cases_Bool (test y)) [
    | inl h ↦
        let f : Some y ≡ Some x = rw h at e in
        let g : y ≡ x = cc in
        rw (ap (λ z. bytes_eq (name z) (name x)) g ∙ same_self (name x)) f
    | inr h ↦
        let k = and_parts (not (is_listed (map name ys) (name y))) (are_distinct (map name ys)) distinct in
        let rest = found_by_name test ys x k.1 (rw h at e) in
        elim (cases_Bool (bytes_eq (name y) (name x))) [
          | inl g ↦
              absurd (true≢false (sym (found_listed ys (name x) x rest) ∙ ap (is_listed (map name ys)) (sym (same_is (name y) (name x) g))
              ∙ not-true (is_listed (map name ys) (name y)) k.0))
          | inr g ↦ rw g rest
        ]
  ]

module _ {X : Type 0} (test : X → Bool) where
  pub found_passes : (xs : List X) (x : X) → find test xs ≡ Some x → test x ≡ true
  found_passes [] x e = absurd (cc)
  found_passes (y ∷ ys) x e = elim (cases_Bool (test y)) [
    | inl h ↦ let f : Some y ≡ Some x = rw h at e in let g : y ≡ x = cc in ap test (sym g) ∙ h
    | inr h ↦ found_passes ys x (rw h at e)
  ]

  pub found_keeps : (p : X → Bool) (xs : List X) (x : X) → list_all p xs ≡ true → find test xs ≡ Some x → p x ≡ true
  found_keeps p [] x all e = absurd (cc)
  found_keeps p (y ∷ ys) x all e =
      let k = and_parts (p y) (list_all p ys) all in
      elim (cases_Bool (test y)) [
        | inl h ↦ let f : Some y ≡ Some x = rw h at e in let g : y ≡ x = cc in ap p (sym g) ∙ k.0
        | inr h ↦ found_keeps p ys x k.1 (rw h at e)
      ]

  -- where one passes, one is found
  pub one_found : (xs : List X) → nat_eq (length (filter test xs)) 1 ≡ true → (x : X) × (find test xs ≡ Some x)
  one_found [] h = absurd (false≢true h)
  one_found (y ∷ ys) h = elim (cases_Bool (test y)) [
    | inl e ↦ (y, rw e refl)
    | inr e ↦ let rest = one_found ys (rw e at h) in (rest.0, rw e rest.1)
  ]

  pub none_passes : (xs : List X) → list_any test xs ≡ false → list_all (λ x. not (test x)) xs ≡ true
  none_passes [] h = refl
  none_passes (x ∷ xs) h =
      let k = or_parts (test x) (list_any test xs) h in
      and_from (not (test x)) (list_all (λ x. not (test x)) xs) (not_from_false (test x) k.0) (none_passes xs k.1)

same_list : (names : List (List ℕ)) → map (λ n. n) names ≡ names
same_list [] = refl
same_list (n ∷ ns) = ap (λ rest. n ∷ rest) (same_list ns)

pub distinct_names_filter : (keep : List ℕ → Bool) (names : List (List ℕ)) → are_distinct names ≡ true → are_distinct (filter keep names) ≡ true
distinct_names_filter keep names h =
    ap are_distinct (sym (same_list (filter keep names))) ∙ distinct_filter (λ n. n) keep names (ap are_distinct (same_list names) ∙ h)
