-- A pass as its loop has it: before some level, from the first turn to the last.

use Rattle.std.proofs.Common.{◌≡◌, ℕ, ◌+◌, ◌<◌, ◌≤◌, ◌==◌, Bool, true, cond, not, ◌&&◌, ◌||◌, List, map, length, get_or, refl, ap, sym, ◌∙◌, inl, inr, arith}
use Rattle.std.specs.Prelude.{nat_lt, All}
use Rattle.std.specs.List.{list_any, range_with_len}
use Rattle.std.proofs.lemmas.Bool.{cases_lt, and_parts, or_cases, eq-eqb, eqb-true, eqb-false, ltb-true, not-true, false≢true}
use Rattle.std.proofs.lemmas.List.Folds.{list_any_at}
use Rattle.std.proofs.lemmas.List.Sums.{count_by-le-length}
use Rattle.std.proofs.lemmas.List.FromFn.{length-range_with_len}
use Rattle.level_cone.specs.Waiting.{waits, room, IsIdle, IsTurn}
use Rattle.level_cone.specs.Cone.{Cone, IsCone, AreOuts, IsPass, affected, marked, marks, stands_in, affected_count, put_all}
use Rattle.level_cone.proofs.WaitingLaws.{room_less}
use Rattle.level_cone.proofs.ConeLaws.{marks_none}
use Rattle.level_cone.proofs.Turns.{cut_start, cut_here, cut_more, cut_more_at, turn_told, turn_before, ticks_part, marks_are, rows_all, ticks_all}

-- no more nodes are affected than there are
pub affected_few : {R : Type 0} (c : Cone R) → affected_count c ≤ c.count
affected_few c =
    let most = count_by-le-length (affected c) (range_with_len 0 c.count) in
    let long = length-range_with_len 0 c.count in
    omega arith

module _ {R : Type 0} (c : Cone R) (laws : IsCone c) where
  -- before the first turn, where the touched nodes were added
  pub pass_start : (seeds : List ℕ) (row : ℕ → R) (keys : List ℕ) (ticks : ℕ)
      → All (λ n. n < c.count) seeds
      → ((n : ℕ) → n < c.count → c.seed n ≡ list_any (λ y. y == n) seeds)
      → ((n : ℕ) → n < c.count → row n ≡ c.was n)
      → ((k n : ℕ) → waits keys k n ≡ stands_in c.level seeds k n)
      → ticks ≡ 0
      → IsPass c row (waits keys) ticks
  pass_start seeds row keys ticks low is rows wait none = (0, cut_start c laws seeds row keys ticks low is rows wait none)

  -- the same, where they were added to a queue in which no node waited
  pub pass_start_at : (seeds : List ℕ) (row : ℕ → R) (none keys : List ℕ) (ticks : ℕ)
      → All (λ n. n < c.count) seeds
      → ((n : ℕ) → n < c.count → c.seed n ≡ list_any (λ y. y == n) seeds)
      → ((n : ℕ) → n < c.count → row n ≡ c.was n)
      → IsIdle none
      → ((k n : ℕ) → waits keys k n ≡ (waits none k n || stands_in c.level seeds k n))
      → ticks ≡ 0
      → IsPass c row (waits keys) ticks
  pass_start_at seeds row none keys ticks low is rows idle wait start = pass_start seeds row keys ticks low is rows
      (λ k n. wait k n ∙ ap (λ (b : Bool). b || stands_in c.level seeds k n) (idle k n)) start

  -- after the last turn all rows are the new ones
  pub pass_rows : (row : ℕ → R) (keys : List ℕ) (ticks : ℕ) → IsPass c row (waits keys) ticks → IsIdle keys → (n : ℕ) → n < c.count → row n ≡ c.now n
  pass_rows row keys ticks pass idle = rows_all c laws pass.0 row (waits keys) ticks pass.1 idle

  -- and each affected node was counted once
  pub pass_ticks : (row : ℕ → R) (keys : List ℕ) (ticks : ℕ) → IsPass c row (waits keys) ticks → IsIdle keys → ticks ≡ affected_count c
  pass_ticks row keys ticks pass idle = ticks_all c laws pass.0 row (waits keys) ticks pass.1 idle

  module _ (row : ℕ → R) (old new : List ℕ) (ticks level : ℕ) (nodes : List ℕ)
      (pass : IsPass c row (waits old) ticks) (turn : IsTurn old new level nodes) where
    -- the nodes of a turn are nodes of its level, with their old rows
    pub pass_told : All (λ n. (n < c.count) × (c.level n ≡ level) × (row n ≡ c.was n)) nodes
    pass_told = turn_told c laws pass.0 row old new ticks level nodes pass.1 turn

    -- the rows of the nodes before them are the new ones
    pub pass_before : All (λ n. All (λ m. row m ≡ c.now m) (c.fan n)) nodes
    pass_before = turn_before c laws pass.0 row old new ticks level nodes pass.1 turn

    -- as far as a turn is counted, no more are counted than are affected
    pub pass_part : (more : ℕ) → more ≤ length nodes → ticks + more ≤ affected_count c
    pass_part more few = ticks_part c laws pass.0 row old new ticks level nodes pass.1 turn more few

    module _ (outs : ℕ → List ℕ) (are_outs : AreOuts c outs) (last : List ℕ)
        (wait : (k n : ℕ) → waits last k n ≡ (waits new k n || marks c outs nodes k n)) where
      -- one turn more
      pub pass_more : (row' : ℕ → R) (ticks' : ℕ)
          → ((n : ℕ) → n < c.count → row' n ≡ cond (list_any (λ y. y == n) nodes) (c.now n) (row n))
          → ticks' ≡ ticks + length nodes
          → IsPass c row' (waits last) ticks'
      pass_more row' ticks' rows told =
          (level + 1, cut_more c laws pass.0 row old new ticks level nodes pass.1 turn outs are_outs row' last (level + 1) ticks' refl rows wait told)

      later : (k n : ℕ) → waits last k n ≡ true → level < k
      later k n some = elim (or_cases (waits new k n) (marks c outs nodes k n) (sym (wait k n) ∙ some)) [
        | inl stayed ↦
            let parts = and_parts (not (k == level)) (waits old k n) (sym (turn.rest k n) ∙ stayed) in
            elim (cases_lt level k) [
              | inl above ↦ above
              | inr upto ↦ elim (cases_lt k level) [
                | inl under ↦ let none = turn.least k n under in absurd (false≢true (sym none ∙ parts.1))
                | inr same ↦ absurd (eqb-false k level (not-true (k == level) parts.0) (omega arith))
              ]
            ]
        | inr marked_there ↦
            let told = sym (marks_are c laws pass.0 row old new ticks level nodes pass.1 turn outs are_outs k n) ∙ marked_there in
            let one = and_parts (nat_lt n c.count) ((c.level n == k) && marked c nodes n) told in
            let two = and_parts (c.level n == k) (marked c nodes n) one.1 in
            let low : n < c.count = ltb-true n c.count one.0 in
            let here : c.level n ≡ k = eqb-true (c.level n) k two.0 in
            elim (cases_lt level k) [
              | inl above ↦ above
              | inr upto ↦
                  let none = marks_none c laws level row (waits old) ticks (cut_here c laws pass.0 row old new ticks level nodes pass.1 turn) nodes turn.each n low (omega arith) in
                  absurd (false≢true (sym none ∙ two.1))
            ]
      ]

      -- the loop ends: a turn takes from the room
      pub pass_smaller : room last < room old
      pass_smaller = room_less old last level (get_or nodes 0 0) turn.low
          (sym (turn.each (get_or nodes 0 0))
          ∙ list_any_at (λ y. y == get_or nodes 0 0) nodes 0 0 turn.some (eq-eqb (get_or nodes 0 0) (get_or nodes 0 0) refl)) later

-- one turn more, as a loop over a list of rows has it
pub pass_more_at : {R : Type 0} (c : Cone R) → IsCone c → (outs : ℕ → List ℕ) → AreOuts c outs
    → (d : R) (rows rows' news : List R) (old new last : List ℕ) (ticks ticks' level : ℕ) (nodes : List ℕ)
    → IsPass c (λ n. get_or rows n d) (waits old) ticks
    → IsTurn old new level nodes
    → c.count ≤ length rows
    → ticks' ≡ ticks + length nodes
    → news ≡ map c.now nodes
    → rows' ≡ put_all rows nodes news
    → ((k n : ℕ) → waits last k n ≡ (waits new k n || marks c outs nodes k n))
    → IsPass c (λ n. get_or rows' n d) (waits last) ticks'
pass_more_at c laws outs are_outs d rows rows' news old new last ticks ticks' level nodes pass turn long told are put wait =
    (level + 1, cut_more_at c laws outs are_outs d rows rows' news old new last pass.0 (level + 1) ticks ticks' level nodes pass.1 turn long refl told are put wait)
