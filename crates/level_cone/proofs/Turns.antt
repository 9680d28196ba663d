-- A pass over what a queue gives, turn by turn.

use Rattle.std.proofs.Common.{◌≡◌, ℕ, zero, suc, ◌+◌, ◌-◌, ◌<◌, ◌≤◌, ◌==◌, Bool, true, false, cond, not, ◌&&◌, ◌||◌, List, [], ◌∷◌, map, length, get_or, refl, ap, sym, subst, ◌∙◌, inl, inr, arith}
use Rattle.std.specs.Prelude.{nat_lt, All}
use Rattle.std.specs.List.{list_any, range_with_len}
use Rattle.std.proofs.lemmas.Bool.{cases_Bool, cases_eq, cases_lt, lt-ltb, le-ltb, eq-eqb, ne_eqb, and_parts, and_right, or_parts, ltb-false, not-true}
use Rattle.std.proofs.lemmas.List.Folds.{list_any_none, list_any_at}
use Rattle.timing_defs.proofs.ListLemmas.{list_any_agree, count_by_agree}
use Rattle.level_cone.specs.Waiting.{waits, IsTurn}
use Rattle.level_cone.specs.Cone.{Cone, IsCone, AreOuts, IsCut, affected, reached, marked, marks, stands_in, affected_count, put_all}
use Rattle.level_cone.proofs.Counts.{range_all, rising_distinct}
use Rattle.level_cone.proofs.ConeLaws.{cut_first, cut_level, cut_part, turn_nodes, turn_fan, waits_here}
use Rattle.level_cone.proofs.Puts.{put_all_at}

or_nothing : (a b c : Bool) → a ≡ (a || (b && (c && false)))
or_nothing true b c = refl
or_nothing false true true = refl
or_nothing false true false = refl
or_nothing false false c = refl

first : (a b : Bool) → ((a && true) || (a && b)) ≡ (a && true)
first true b = refl
first false b = refl

later : (a b : Bool) → ((a && false) || b) ≡ b
later true b = refl
later false b = refl

and_swap : (a b c : Bool) → (a && (b && c)) ≡ (b && (a && c))
and_swap true b c = refl
and_swap false true c = refl
and_swap false false c = refl

any_and : (b : Bool) {X : Type 0} (p : X → Bool) (xs : List X) → list_any (λ x. b && p x) xs ≡ (b && list_any p xs)
any_and true p xs = refl
any_and false p xs = list_any_none (λ x. false && p x) xs (λ k d within. refl)

-- those that stand among some at their own levels
pub stands_alone : (level : ℕ → ℕ) (nodes : List ℕ) (k n : ℕ) → stands_in level nodes k n ≡ ((level n == k) && list_any (λ y. y == n) nodes)
stands_alone level [] k n = sym (and_right (level n == k) false refl)
stands_alone level (x ∷ nodes) k n =
    ap (λ (b : Bool). ((level x == k) && (x == n)) || b) (stands_alone level nodes k n)
    ∙ elim (cases_eq x n) [
      | inl same ↦ rw (eq-eqb x n same) (subst (λ (y : ℕ). (((level y == k) && true) || ((level n == k) && list_any (λ z. z == n) nodes)) ≡ ((level n == k) && true)) (sym same) (first (level n == k) (list_any (λ z. z == n) nodes)))
      | inr other ↦ rw (ne_eqb x n other) (later (level x == k) ((level n == k) && list_any (λ z. z == n) nodes))
    ]

-- levels that agree there
pub stands_agree : (level other : ℕ → ℕ) (nodes : List ℕ) → All (λ y. level y ≡ other y) nodes → (k n : ℕ) → stands_in level nodes k n ≡ stands_in other nodes k n
stands_agree level other nodes alike k n = list_any_agree (λ y. (level y == k) && (y == n)) (λ y. (other y == k) && (y == n)) nodes
    (λ i d within. ap (λ (l : ℕ). (l == k) && (get_or nodes i d == n)) (alike i d within))

-- what a loop marks, where its test and its levels are those of the cone
pub marks_agree : {R : Type 0} (c : Cone R) (differs : ℕ → Bool) (level : ℕ → ℕ) (outs : ℕ → List ℕ) (nodes : List ℕ)
    → All (λ m. differs m ≡ c.differs m) nodes
    → All (λ m. All (λ y. level y ≡ c.level y) (outs m)) nodes
    → (k n : ℕ) → list_any (λ m. differs m && stands_in level (outs m) k n) nodes ≡ marks c outs nodes k n
marks_agree c differs level outs nodes tests levels k n =
    list_any_agree (λ m. differs m && stands_in level (outs m) k n) (λ m. c.differs m && stands_in c.level (outs m) k n) nodes
    (λ i d within.
    ap (λ (b : Bool). b && stands_in level (outs (get_or nodes i d)) k n) (tests i d within)
    ∙ ap (λ (b : Bool). c.differs (get_or nodes i d) && b) (stands_agree level c.level (outs (get_or nodes i d)) (levels i d within) k n))

-- where no test passes, each fails
none_found : {X : Type 0} (p : X → Bool) (xs : List X) → list_any p xs ≡ false → All (λ x. p x ≡ false) xs
none_found p xs told k d within = elim (cases_Bool (p (get_or xs k d))) [
  | inl there ↦ let some = list_any_at p xs k d within there in cc
  | inr none ↦ none
]

-- a pass may show `calm` by its steps: a node that is not touched has one step before and after
pub calm_by : {R : Type 0} (c : Cone R) (before after : (ℕ → R) → ℕ → R)
    → ((n : ℕ) → n < c.count → All (λ m. m < c.count) (c.fan n))
    → ((n : ℕ) → n < c.count → c.was n ≡ before c.was n)
    → ((n : ℕ) → n < c.count → c.now n ≡ after c.now n)
    → ((f g : ℕ → R) (n : ℕ) → n < c.count → c.seed n ≡ false → All (λ m. f m ≡ g m) (c.fan n) → before f n ≡ after g n)
    → ((m : ℕ) → m < c.count → c.differs m ≡ false → c.was m ≡ c.now m)
    → (n : ℕ) → n < c.count → affected c n ≡ false → c.was n ≡ c.now n
calm_by c before after low was_is now_is alike tells n under quiet =
    let parts = or_parts (c.seed n) (list_any c.differs (c.fan n)) quiet in
    let same = none_found c.differs (c.fan n) parts.1 in
    was_is n under
    ∙ alike c.was c.now n under parts.0 (λ k d within. tells (get_or (c.fan n) k d) (low n under k d within) (same k d within))
    ∙ sym (now_is n under)

module _ {R : Type 0} (c : Cone R) (laws : IsCone c) where
  skip_one : (l next : ℕ) (row : ℕ → R) (waiting : ℕ → ℕ → Bool) (ticks : ℕ) → next ≡ l + 1 → IsCut c l row waiting ticks
      → ((n : ℕ) → waiting l n ≡ false) → IsCut c next row waiting ticks
  skip_one l next row waiting ticks step cut none =
      cut_level c laws l row waiting ticks cut [] (λ n. sym (none n)) row waiting next step (λ n low. refl)
      (λ k n. elim (cases_eq k l) [
        | inl same ↦
            let nil : waiting k n ≡ false = ap (λ (j : ℕ). waiting j n) same ∙ none n in
            rw (nil, eq-eqb k l same) (or_nothing false (nat_lt n c.count) (c.level n == k))
        | inr other ↦ rw (ne_eqb k l other) (or_nothing (waiting k n) (nat_lt n c.count) (c.level n == k))
      ])
      ticks (rising_distinct [] (λ k within. absurd (omega arith))) (omega arith)

  skip_by : (j l to : ℕ) (row : ℕ → R) (waiting : ℕ → ℕ → Bool) (ticks : ℕ) → l + j ≡ to → IsCut c l row waiting ticks
      → ((k n : ℕ) → k < to → waiting k n ≡ false) → IsCut c to row waiting ticks
  skip_by zero l to row waiting ticks sum cut none = subst (λ (m : ℕ). IsCut c m row waiting ticks) (let same : l ≡ to = omega arith in same) cut
  skip_by (suc j) l to row waiting ticks sum cut none =
      skip_by j (l + 1) to row waiting ticks (omega arith) (skip_one l (l + 1) row waiting ticks refl cut (λ n. none l n (omega arith))) none

  -- levels at which no node waits are done
  pub cut_skip : (l to : ℕ) (row : ℕ → R) (waiting : ℕ → ℕ → Bool) (ticks : ℕ) → l ≤ to → IsCut c l row waiting ticks
      → ((k n : ℕ) → k < to → waiting k n ≡ false) → IsCut c to row waiting ticks
  cut_skip l to row waiting ticks within cut none = skip_by (to - l) l to row waiting ticks (omega arith) cut none

  module _ (l : ℕ) (row : ℕ → R) (waiting : ℕ → ℕ → Bool) (ticks : ℕ) (cut : IsCut c l row waiting ticks) (calm : (k n : ℕ) → waiting k n ≡ false) where
    -- where no node waits all rows are the new ones
    pub rows_all : (n : ℕ) → n < c.count → row n ≡ c.now n
    rows_all n low = (cut_skip l (l + (c.level n + 1)) row waiting ticks (omega arith) cut (λ k m under. calm k m)).below n low (omega arith)

    quiet_above : (n : ℕ) → n < c.count → l ≤ c.level n → affected c n ≡ false
    quiet_above n low over =
        let here = waits_here c laws (c.level n) row waiting ticks (cut_skip l (c.level n) row waiting ticks over cut (λ k m under. calm k m)) n in
        sym (here ∙ rw (lt-ltb n c.count low, eq-eqb (c.level n) (c.level n) refl) refl) ∙ calm (c.level n) n

    -- and each affected node was counted once
    pub ticks_all : ticks ≡ affected_count c
    ticks_all = cut.counted ∙ count_by_agree (λ n. nat_lt (c.level n) l && affected c n) (affected c) (range_with_len 0 c.count)
        (range_all (λ n. (nat_lt (c.level n) l && affected c n) ≡ affected c n) c.count (λ n low. elim (cases_lt (c.level n) l) [
          | inl under ↦ rw (lt-ltb (c.level n) l under) refl
          | inr over ↦
              let quiet = quiet_above n low over in
              ap (λ (b : Bool). nat_lt (c.level n) l && b) quiet ∙ and_right (nat_lt (c.level n) l) false refl ∙ sym quiet
        ]))

  -- before the first turn, where the touched nodes were added
  pub cut_start : (seeds : List ℕ) (row : ℕ → R) (keys : List ℕ) (ticks : ℕ)
      → All (λ n. n < c.count) seeds
      → ((n : ℕ) → n < c.count → c.seed n ≡ list_any (λ y. y == n) seeds)
      → ((n : ℕ) → n < c.count → row n ≡ c.was n)
      → ((k n : ℕ) → waits keys k n ≡ stands_in c.level seeds k n)
      → ticks ≡ 0
      → IsCut c 0 row (waits keys) ticks
  cut_start seeds row keys ticks low is rows wait none = cut_first c laws row (waits keys) ticks rows
      (λ k n. wait k n ∙ stands_alone c.level seeds k n ∙ elim (cases_lt n c.count) [
        | inl under ↦ rw (lt-ltb n c.count under) (ap (λ (b : Bool). (c.level n == k) && b) (sym (is n under)))
        | inr high ↦ rw (le-ltb n c.count high) (and_right (c.level n == k) (list_any (λ y. y == n) seeds)
            (list_any_none (λ y. y == n) seeds (λ i d within. ne_eqb (get_or seeds i d) n (λ e. let under = low i d within in omega arith))))
      ])
      none

  module _ (l : ℕ) (row : ℕ → R) (old new : List ℕ) (ticks level : ℕ) (nodes : List ℕ)
      (cut : IsCut c l row (waits old) ticks) (turn : IsTurn old new level nodes) where
    -- a turn is not below the cut
    pub turn_from : l ≤ level
    turn_from =
        let first : list_any (λ y. y == get_or nodes 0 0) nodes ≡ true =
        list_any_at (λ y. y == get_or nodes 0 0) nodes 0 0 turn.some (eq-eqb (get_or nodes 0 0) (get_or nodes 0 0) refl) in
        let told = sym (cut.flagged level (get_or nodes 0 0)) ∙ sym (turn.each (get_or nodes 0 0)) ∙ first in
        let one = and_parts (nat_lt (get_or nodes 0 0) c.count) ((c.level (get_or nodes 0 0) == level) && (not (nat_lt level l) && reached c l (get_or nodes 0 0))) told in
        let two = and_parts (c.level (get_or nodes 0 0) == level) (not (nat_lt level l) && reached c l (get_or nodes 0 0)) one.1 in
        let three = and_parts (not (nat_lt level l)) (reached c l (get_or nodes 0 0)) two.1 in
        ltb-false level l (not-true (nat_lt level l) three.0)

    pub cut_here : IsCut c level row (waits old) ticks
    cut_here = cut_skip l level row (waits old) ticks turn_from cut turn.least

    -- the nodes of a turn are nodes of its level, with their old rows
    pub turn_told : All (λ n. (n < c.count) × (c.level n ≡ level) × (row n ≡ c.was n)) nodes
    turn_told = turn_nodes c laws level row (waits old) ticks cut_here nodes turn.each

    -- the rows of the nodes before them are the new ones
    pub turn_before : All (λ n. All (λ m. row m ≡ c.now m) (c.fan n)) nodes
    turn_before = turn_fan c laws level row (waits old) ticks cut_here nodes turn.each

    -- what is counted where a level stops
    pub ticks_part : (more : ℕ) → more ≤ length nodes → ticks + more ≤ affected_count c
    ticks_part more few = cut_part c laws level row (waits old) ticks cut_here nodes turn.each more (rising_distinct nodes turn.rising) few

    module _ (outs : ℕ → List ℕ) (are_outs : AreOuts c outs) where
      pub marks_are : (k n : ℕ) → marks c outs nodes k n ≡ (nat_lt n c.count && ((c.level n == k) && marked c nodes n))
      marks_are k n = elim (cases_lt n c.count) [
        | inl under ↦
            rw (lt-ltb n c.count under)
            (list_any_agree (λ m. c.differs m && stands_in c.level (outs m) k n) (λ m. (c.level n == k) && (c.differs m && list_any (λ y. y == m) (c.fan n))) nodes
            (λ i d within.
            ap (λ (b : Bool). c.differs (get_or nodes i d) && b) (stands_alone c.level (outs (get_or nodes i d)) k n
            ∙ ap (λ (b : Bool). (c.level n == k) && b) (are_outs.back (get_or nodes i d) n (turn_told i d within).0 under))
            ∙ and_swap (c.differs (get_or nodes i d)) (c.level n == k) (list_any (λ y. y == get_or nodes i d) (c.fan n)))
            ∙ any_and (c.level n == k) (λ m. c.differs m && list_any (λ y. y == m) (c.fan n)) nodes)
        | inr high ↦
            rw (le-ltb n c.count high)
            (list_any_none (λ m. c.differs m && stands_in c.level (outs m) k n) nodes (λ i d within.
            and_right (c.differs (get_or nodes i d)) (stands_in c.level (outs (get_or nodes i d)) k n)
            (list_any_none (λ y. (c.level y == k) && (y == n)) (outs (get_or nodes i d)) (λ j e inside.
            let under = are_outs.low (get_or nodes i d) (turn_told i d within).0 j e inside in
            and_right (c.level (get_or (outs (get_or nodes i d)) j e) == k) (get_or (outs (get_or nodes i d)) j e == n) (ne_eqb (get_or (outs (get_or nodes i d)) j e) n (λ same. omega arith))))))
      ]

      -- one turn more
      pub cut_more : (row' : ℕ → R) (last : List ℕ) (next ticks' : ℕ)
          → next ≡ level + 1
          → ((n : ℕ) → n < c.count → row' n ≡ cond (list_any (λ y. y == n) nodes) (c.now n) (row n))
          → ((k n : ℕ) → waits last k n ≡ (waits new k n || marks c outs nodes k n))
          → ticks' ≡ ticks + length nodes
          → IsCut c next row' (waits last) ticks'
      cut_more row' last next ticks' step rows wait told =
          cut_level c laws level row (waits old) ticks cut_here nodes turn.each row' (waits last) next step rows
          (λ k n. wait k n
          ∙ ap (λ (b : Bool). b || marks c outs nodes k n) (turn.rest k n)
          ∙ ap (λ (b : Bool). (not (k == level) && waits old k n) || b) (marks_are k n))
          ticks' (rising_distinct nodes turn.rising) told

-- one turn more, as a loop over a list of rows has it
pub cut_more_at : {R : Type 0} (c : Cone R) → IsCone c → (outs : ℕ → List ℕ) → AreOuts c outs
    → (d : R) (rows rows' news : List R) (old new last : List ℕ) (l next ticks ticks' level : ℕ) (nodes : List ℕ)
    → IsCut c l (λ n. get_or rows n d) (waits old) ticks
    → IsTurn old new level nodes
    → c.count ≤ length rows
    → next ≡ level + 1
    → ticks' ≡ ticks + length nodes
    → news ≡ map c.now nodes
    → rows' ≡ put_all rows nodes news
    → ((k n : ℕ) → waits last k n ≡ (waits new k n || marks c outs nodes k n))
    → IsCut c next (λ n. get_or rows' n d) (waits last) ticks'
cut_more_at {R = R} c laws outs are_outs d rows rows' news old new last l next ticks ticks' level nodes cut turn long step told are put wait =
    let low : All (λ n. n < length rows) nodes = λ k e within.
    let there = turn_told c laws l (λ n. get_or rows n d) old new ticks level nodes cut turn k e within in
    omega (arith, there.0) in
    cut_more c laws l (λ n. get_or rows n d) old new ticks level nodes cut turn outs are_outs (λ n. get_or rows' n d) last next ticks' step
    (λ n under. ap (λ (xs : List R). get_or xs n d) (put ∙ ap (put_all rows nodes) are) ∙ put_all_at c.now d rows nodes low n) wait told
