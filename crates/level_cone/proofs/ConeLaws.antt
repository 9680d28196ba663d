-- The pass over the affected nodes, level by level.

use Rattle.std.proofs.Common.{◌≡◌, ℕ, ◌+◌, ◌<◌, ◌≤◌, ◌==◌, Bool, true, false, cond, not, ◌&&◌, ◌||◌, List, length, get_or, refl, ap, sym, subst, ◌∙◌, inl, inr, arith}
use Rattle.std.specs.Prelude.{nat_lt, nat_eq, All}
use Rattle.std.specs.List.{count_by, list_any, range_with_len, IsDistinct}
use Rattle.std.proofs.lemmas.Bool.{cases_Bool, cases_eq, cases_lt, lt-ltb, le-ltb, eq-eqb, ne_eqb, eqb-true, ltb-true, and_parts, and_from, and_right}
use Rattle.std.proofs.lemmas.List.Folds.{list_any_none, list_any_at}
use Rattle.timing_defs.proofs.ListLemmas.{bool_iff, list_any_agree, count_by_agree, list_any_either, list_any_found}
use Rattle.level_cone.specs.Cone.{Cone, IsCone, IsCut, affected, reached, marked, affected_count, affected_below}
use Rattle.level_cone.proofs.Counts.{count_split, count_never, count_le, range_all, members_count}

none_or : (a b : Bool) → false ≡ ((a && false) || (b && false))
none_or true true = refl
none_or true false = refl
none_or false true = refl
none_or false false = refl

none_left : (b : Bool) → ((not b && false) || false) ≡ false
none_left true = refl
none_left false = refl

or_false : (b : Bool) → (b || false) ≡ b
or_false true = refl
or_false false = refl

or_assoc : (a b c : Bool) → ((a || b) || c) ≡ (a || (b || c))
or_assoc true b c = refl
or_assoc false b c = refl

cond_same : {A : Type 0} (b : Bool) (x : A) → cond b x x ≡ x
cond_same true x = refl
cond_same false x = refl

-- a test that a number passes passes where that number is
passes_at : (p : ℕ → Bool) (xs : List ℕ) (n : ℕ) → list_any (λ y. y == n) xs ≡ true → p n ≡ true → list_any p xs ≡ true
passes_at p xs n there passes =
    let place = list_any_found (λ y. y == n) xs there in
    let same : place.1 ≡ n = eqb-true place.1 n place.4 in
    list_any_at p xs place.0 place.1 place.2 (subst (λ (m : ℕ). p m ≡ true) (sym (place.3 ∙ same)) passes)

-- below the next level is below this one or at it
next_test : (a l next : ℕ) (b : Bool) → next ≡ l + 1 → (nat_lt a next && b) ≡ ((nat_lt a l && b) || ((a == l) && b))
next_test a l next true step = elim (cases_lt a l) [
  | inl low ↦ rw (lt-ltb a l low, lt-ltb a next (omega arith)) refl
  | inr high ↦ elim (cases_eq a l) [
    | inl same ↦ rw (le-ltb a l high, lt-ltb a next (omega arith), eq-eqb a l same) refl
    | inr other ↦ rw (le-ltb a l high, le-ltb a next (omega arith), ne_eqb a l other) refl
  ]
]
next_test a l next false step = and_right (nat_lt a next) false refl ∙ none_or (nat_lt a l) (a == l)

next_unit : (a l next : ℕ) (b : Bool) → next ≡ l + 1
    → cond {A = ℕ} (nat_lt a next && b) 1 0 ≡ cond (nat_lt a l && b) 1 0 + cond ((a == l) && b) 1 0
next_unit a l next b step = elim (cases_lt a l) [
  | inl low ↦ rw (lt-ltb a l low, lt-ltb a next (omega arith), ne_eqb a l (λ e. omega arith)) (omega arith)
  | inr high ↦ elim (cases_eq a l) [
    | inl same ↦ rw (le-ltb a l high, lt-ltb a next (omega arith), eq-eqb a l same) (omega arith)
    | inr other ↦ rw (le-ltb a l high, le-ltb a next (omega arith), ne_eqb a l other) refl
  ]
]

module _ {R : Type 0} (c : Cone R) (laws : IsCone c) where
  -- at a node's own level all nodes before it are done
  pub reached_affected : (l n : ℕ) → n < c.count → c.level n ≤ l → reached c l n ≡ affected c n
  reached_affected l n low under =
      ap (λ (b : Bool). c.seed n || b) (list_any_agree (λ m. nat_lt (c.level m) l && c.differs m) c.differs (c.fan n)
      (λ k d within.
      let less = laws.rising n low k d within in
      rw (lt-ltb (c.level (get_or (c.fan n) k d)) l (omega arith)) refl))

  -- what differs is affected
  moved : (m : ℕ) → m < c.count → c.differs m ≡ true → affected c m ≡ true
  moved m low told = elim (cases_Bool (affected c m)) [
    | inl there ↦ there
    | inr none ↦ let still = laws.still m low none in cc
  ]

  count_first : (xs : List ℕ) → count_by (λ n. nat_lt (c.level n) 0 && affected c n) xs ≡ 0
  count_first xs = count_by_agree (λ n. nat_lt (c.level n) 0 && affected c n) (λ n. false) xs
      (λ k d within. rw (le-ltb (c.level (get_or xs k d)) 0 (omega arith)) refl) ∙ count_never xs

  -- before the first level
  pub cut_first : (row : ℕ → R) (waiting : ℕ → ℕ → Bool) (ticks : ℕ)
      → ((n : ℕ) → n < c.count → row n ≡ c.was n)
      → ((k n : ℕ) → waiting k n ≡ (nat_lt n c.count && ((c.level n == k) && c.seed n)))
      → ticks ≡ 0
      → IsCut c 0 row waiting ticks
  cut_first row waiting ticks rows seeds none = record {
    below = λ n low under. absurd (omega arith);
    above = λ n low over. rows n low;
    flagged = λ k n. seeds k n ∙ ap (λ (b : Bool). nat_lt n c.count && ((c.level n == k) && b))
        (sym (rw (le-ltb k 0 (omega arith))
        (ap (λ (b : Bool). c.seed n || b) (list_any_none (λ m. nat_lt (c.level m) 0 && c.differs m) (c.fan n)
        (λ i d within. rw (le-ltb (c.level (get_or (c.fan n) i d)) 0 (omega arith)) refl)) ∙ or_false (c.seed n))));
    counted = none ∙ sym (count_first (range_with_len 0 c.count));
  }

  module _ (l : ℕ) (row : ℕ → R) (waiting : ℕ → ℕ → Bool) (ticks : ℕ) (cut : IsCut c l row waiting ticks) where
    -- what waits at this level is what is affected there
    pub waits_here : (n : ℕ) → waiting l n ≡ (nat_lt n c.count && ((c.level n == l) && affected c n))
    waits_here n = cut.flagged l n ∙ elim (cases_lt n c.count) [
      | inl low ↦ elim (cases_eq (c.level n) l) [
        | inl here ↦
            let none : nat_lt l l ≡ false = le-ltb l l (omega arith) in
            rw (lt-ltb n c.count low, eq-eqb (c.level n) l here, none) (reached_affected l n low (omega arith))
        | inr other ↦ rw (lt-ltb n c.count low, ne_eqb (c.level n) l other) refl
      ]
      | inr high ↦ rw (le-ltb n c.count high) refl
    ]

    module _ (nodes : List ℕ) (each : (n : ℕ) → list_any (λ y. y == n) nodes ≡ waiting l n) where
      -- a node of the turn
      node_told : (n : ℕ) → list_any (λ y. y == n) nodes ≡ true → (n < c.count) × (c.level n ≡ l) × (affected c n ≡ true)
      node_told n there =
          let parts = and_parts (nat_lt n c.count) ((c.level n == l) && affected c n) (sym (waits_here n) ∙ sym (each n) ∙ there) in
          let more = and_parts (c.level n == l) (affected c n) parts.1 in
          (ltb-true n c.count parts.0, eqb-true (c.level n) l more.0, more.1)

      in_nodes : (k d : ℕ) → k < length nodes → list_any (λ y. y == get_or nodes k d) nodes ≡ true
      in_nodes k d within = list_any_at (λ y. y == get_or nodes k d) nodes k d within (eq-eqb (get_or nodes k d) (get_or nodes k d) refl)

      in_from : (n : ℕ) → n < c.count → c.level n ≡ l → affected c n ≡ true → list_any (λ y. y == n) nodes ≡ true
      in_from n low here told = each n ∙ (waits_here n ∙ rw (lt-ltb n c.count low, eq-eqb (c.level n) l here) told)

      -- the nodes of the turn are nodes of this level with their old rows
      pub turn_nodes : All (λ n. (n < c.count) × (c.level n ≡ l) × (row n ≡ c.was n)) nodes
      turn_nodes k d within =
          let told = node_told (get_or nodes k d) (in_nodes k d within) in
          (told.0, told.1, cut.above (get_or nodes k d) told.0 (omega (arith, told.1)))

      -- and the rows of the nodes before them are the new ones
      pub turn_fan : All (λ n. All (λ m. row m ≡ c.now m) (c.fan n)) nodes
      turn_fan k d within i e inside =
          let told = node_told (get_or nodes k d) (in_nodes k d within) in
          let low = laws.low (get_or nodes k d) told.0 i e inside in
          let less = laws.rising (get_or nodes k d) told.0 i e inside in
          cut.below (get_or (c.fan (get_or nodes k d)) i e) low (omega (arith, told.1))

      -- what the turn marks: the nodes behind one of this level that differs
      marks_level : (n : ℕ) → n < c.count → marked c nodes n ≡ list_any (λ m. (c.level m == l) && c.differs m) (c.fan n)
      marks_level n low = bool_iff (marked c nodes n) (list_any (λ m. (c.level m == l) && c.differs m) (c.fan n))
          (λ some.
          let found = list_any_found (λ m. c.differs m && list_any (λ y. y == m) (c.fan n)) nodes some in
          let tests = and_parts (c.differs found.1) (list_any (λ y. y == found.1) (c.fan n)) found.4 in
          let told = node_told found.1 (list_any_at (λ y. y == found.1) nodes found.0 found.1 found.2 (eq-eqb (get_or nodes found.0 found.1) found.1 found.3)) in
          passes_at (λ m. (c.level m == l) && c.differs m) (c.fan n) found.1 tests.1
          (and_from (c.level found.1 == l) (c.differs found.1) (eq-eqb (c.level found.1) l told.1) tests.0))
          (λ some.
          let found = list_any_found (λ m. (c.level m == l) && c.differs m) (c.fan n) some in
          let tests = and_parts (c.level found.1 == l) (c.differs found.1) found.4 in
          let under : found.1 < c.count = subst (λ (m : ℕ). m < c.count) found.3 (laws.low n low found.0 found.1 found.2) in
          let there : list_any (λ y. y == found.1) nodes ≡ true =
          in_from found.1 under (eqb-true (c.level found.1) l tests.0) (moved found.1 under tests.1) in
          let before : list_any (λ y. y == found.1) (c.fan n) ≡ true =
          list_any_at (λ y. y == found.1) (c.fan n) found.0 found.1 found.2 (eq-eqb (get_or (c.fan n) found.0 found.1) found.1 found.3) in
          passes_at (λ m. c.differs m && list_any (λ y. y == m) (c.fan n)) nodes found.1 there
          (and_from (c.differs found.1) (list_any (λ y. y == found.1) (c.fan n)) tests.1 before))

      -- no node at this level or below it is marked
      pub marks_none : (n : ℕ) → n < c.count → c.level n ≤ l → marked c nodes n ≡ false
      marks_none n low under = marks_level n low ∙ list_any_none (λ m. (c.level m == l) && c.differs m) (c.fan n)
          (λ k d within.
          let less = laws.rising n low k d within in
          rw (ne_eqb (c.level (get_or (c.fan n) k d)) l (λ e. omega arith)) refl)

      reached_more : (next n : ℕ) → next ≡ l + 1 → n < c.count → (reached c l n || marked c nodes n) ≡ reached c next n
      reached_more next n step low =
          ap (λ (b : Bool). reached c l n || b) (marks_level n low)
          ∙ or_assoc (c.seed n) (list_any (λ m. nat_lt (c.level m) l && c.differs m) (c.fan n)) (list_any (λ m. (c.level m == l) && c.differs m) (c.fan n))
          ∙ ap (λ (b : Bool). c.seed n || b)
          (sym (list_any_agree (λ m. nat_lt (c.level m) next && c.differs m) (λ m. (nat_lt (c.level m) l && c.differs m) || ((c.level m == l) && c.differs m)) (c.fan n)
          (λ k d within. next_test (c.level (get_or (c.fan n) k d)) l next (c.differs (get_or (c.fan n) k d)) step)
          ∙ list_any_either (λ m. nat_lt (c.level m) l && c.differs m) (λ m. (c.level m == l) && c.differs m) (c.fan n)))

      -- how many nodes are affected below the next level
      count_next : (next : ℕ) → next ≡ l + 1 → IsDistinct nat_eq nodes → ticks + length nodes ≡ affected_below c next
      count_next next step distinct =
          let parts = count_split (λ (n : ℕ). nat_lt (c.level n) next && affected c n) (λ n. nat_lt (c.level n) l && affected c n) (λ n. (c.level n == l) && affected c n)
          (λ n. next_unit (c.level n) l next (affected c n) step) (range_with_len 0 c.count) in
          let here : count_by (λ n. (c.level n == l) && affected c n) (range_with_len 0 c.count) ≡ count_by (λ n. list_any (λ y. y == n) nodes) (range_with_len 0 c.count) =
          count_by_agree (λ n. (c.level n == l) && affected c n) (λ n. list_any (λ y. y == n) nodes) (range_with_len 0 c.count)
          (range_all (λ n. ((c.level n == l) && affected c n) ≡ list_any (λ y. y == n) nodes) c.count
          (λ n low. sym (each n ∙ waits_here n ∙ rw (lt-ltb n c.count low) refl))) in
          let many = members_count c.count nodes distinct (λ k d within. (node_told (get_or nodes k d) (in_nodes k d within)).0) in
          omega (arith, cut.counted)

      -- counted after part of a level: no more than are affected
      pub cut_part : (more : ℕ) → IsDistinct nat_eq nodes → more ≤ length nodes → ticks + more ≤ affected_count c
      cut_part more distinct few =
          let whole = count_next (l + 1) refl distinct in
          let most = count_le (λ (n : ℕ). nat_lt (c.level n) (l + 1) && affected c n) (affected c) (λ n told. (and_parts (nat_lt (c.level n) (l + 1)) (affected c n) told).1) (range_with_len 0 c.count) in
          omega arith

      module _ (row' : ℕ → R) (waiting' : ℕ → ℕ → Bool) (next : ℕ) (step : next ≡ l + 1)
          (rows : (n : ℕ) → n < c.count → row' n ≡ cond (list_any (λ y. y == n) nodes) (c.now n) (row n))
          (marks : (k n : ℕ) → waiting' k n ≡ ((not (k == l) && waiting k n) || (nat_lt n c.count && ((c.level n == k) && marked c nodes n)))) where
        row_below : (n : ℕ) → n < c.count → c.level n < next → row' n ≡ c.now n
        row_below n low under = rows n low ∙ elim (cases_lt (c.level n) l) [
          | inl done ↦ rw (cut.below n low done) (cond_same (list_any (λ y. y == n) nodes) (c.now n))
          | inr over ↦ elim (cases_Bool (list_any (λ y. y == n) nodes)) [
            | inl there ↦ rw there refl
            | inr none ↦
                let quiet : affected c n ≡ false = sym (waits_here n ∙ rw (lt-ltb n c.count low, eq-eqb (c.level n) l (omega arith)) refl) ∙ sym (each n) ∙ none in
                rw none (cut.above n low over ∙ laws.calm n low quiet)
          ]
        ]

        row_above : (n : ℕ) → n < c.count → next ≤ c.level n → row' n ≡ c.was n
        row_above n low over =
            let none : list_any (λ y. y == n) nodes ≡ false = each n ∙ waits_here n ∙ rw (lt-ltb n c.count low, ne_eqb (c.level n) l (λ e. omega arith)) refl in
            rows n low ∙ rw none (cut.above n low (omega arith))

        flag_here : (k n : ℕ) → n < c.count → c.level n ≡ k
            → ((not (k == l) && (not (nat_lt k l) && reached c l n)) || marked c nodes n) ≡ (not (nat_lt k next) && reached c next n)
        flag_here k n low here = elim (cases_lt l k) [
          | inl above ↦ rw (ne_eqb k l (λ e. omega arith), le-ltb k l (omega arith), le-ltb k next (omega arith)) (reached_more next n step low)
          | inr upto ↦ ap (λ (b : Bool). (not (k == l) && (not (nat_lt k l) && reached c l n)) || b) (marks_none n low (omega arith))
              ∙ rw (lt-ltb k next (omega arith)) (elim (cases_eq k l) [
                | inl same ↦ rw (eq-eqb k l same) refl
                | inr other ↦ rw (lt-ltb k l (omega arith)) (none_left (k == l))
              ])
        ]

        flags : (k n : ℕ) → waiting' k n ≡ (nat_lt n c.count && ((c.level n == k) && (not (nat_lt k next) && reached c next n)))
        flags k n = marks k n
            ∙ ap (λ (b : Bool). (not (k == l) && b) || (nat_lt n c.count && ((c.level n == k) && marked c nodes n))) (cut.flagged k n)
            ∙ elim (cases_lt n c.count) [
              | inl low ↦ elim (cases_eq (c.level n) k) [
                | inl here ↦ rw (lt-ltb n c.count low, eq-eqb (c.level n) k here) (flag_here k n low here)
                | inr other ↦ rw (lt-ltb n c.count low, ne_eqb (c.level n) k other) (none_left (k == l))
              ]
              | inr high ↦ rw (le-ltb n c.count high) (none_left (k == l))
            ]

        -- one level more
        pub cut_level : (ticks' : ℕ) → IsDistinct nat_eq nodes → ticks' ≡ ticks + length nodes → IsCut c next row' waiting' ticks'
        cut_level ticks' distinct told = record {
          below = row_below;
          above = row_above;
          flagged = flags;
          counted = told ∙ count_next next step distinct;
        }
