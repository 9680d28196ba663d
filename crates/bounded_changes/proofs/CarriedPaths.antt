-- A path of which some step is not agreed on is carried: it arrives at its end no later than the carried time there, or no earlier
-- where early times are compared.

use Rattle.std.proofs.Common.{◌≡◌, ℕ, ℤ, pos, ◌+ℤ◌, Bool, true, false, List, [], ◌∷◌, Option, None, Some, refl, sym, ap, subst, ◌∙◌, inl, inr, arith}
use Rattle.std.specs.Prelude.{◌&&◌}
use Rattle.std.proofs.lemmas.Bool.{cases_Bool}
use Rattle.std.proofs.lemmas.Int.{ints}
use Rattle.timing_defs.specs.declared.kinds.Split.{Split}
use Rattle.timing_defs.specs.declared.kinds.Split.TheVariants.{Early, Late}
use Rattle.timing_defs.specs.declared.kinds.Tran.{Tran}
use Rattle.timing_defs.specs.declared.design.Design.{Design}
use Rattle.timing_defs.specs.RowTimes.{plus_some}
use Rattle.timing_rules.specs.Paths.{Named, delay_between, walk_delay, last_of, start_of}
use Rattle.timing_defs.proofs.Members.{some_is}
use Rattle.bounded_changes.specs.Agreed.{Steps, steps_agreed}
use Rattle.bounded_changes.specs.Carried.{IsBeyond, arrival_named, AreArrivals, AreCarried}

-- a value that is beyond a time
pub record HasBeyond (split : Split) (o : Option ℤ) (t : ℤ) : Type 0 where
  pub value : ℤ
  pub is : o ≡ Some value
  pub beyond : IsBeyond split (Some value) t

pub beyond_value : (split : Split) (o : Option ℤ) (t : ℤ) → IsBeyond split o t → HasBeyond split o t
beyond_value split None t h = absurd h
beyond_value split (Some x) t h = record { value = x; is = refl; beyond = h }

-- what is beyond a further time is beyond the nearer one
pub further : (split : Split) (o : Option ℤ) (t u : ℤ) → IsBeyond split o u → IsBeyond split (Some u) t → IsBeyond split o t
further split None t u h k = absurd h
further Early (Some x) t u h k = omega (arith, ints, h, k)
further Late (Some x) t u h k = omega (arith, ints, h, k)

pub later : (split : Split) (u t x : ℤ) → IsBeyond split (Some u) t → IsBeyond split (Some (u +ℤ x)) (t +ℤ x)
later Early u t x h = omega (arith, ints, h)
later Late u t x h = omega (arith, ints, h)

-- both parts of a sum are there
pub record IsSum (x y : Option ℤ) (s : ℤ) : Type 0 where
  pub one : ℤ
  pub other : ℤ
  pub first : x ≡ Some one
  pub rest : y ≡ Some other
  pub sum : one +ℤ other ≡ s

pub sum_parts : (x y : Option ℤ) (s : ℤ) → plus_some x y ≡ Some s → IsSum x y s
sum_parts None y s e = absurd (cc)
sum_parts (Some a) None s e = absurd (cc)
sum_parts (Some a) (Some b) s e = record { one = a; other = b; first = refl; rest = refl; sum = some_is e }

grouped : (t a b s : ℤ) → a +ℤ b ≡ s → (t +ℤ a) +ℤ b ≡ t +ℤ s
grouped t a b s e = omega (arith, ints, e)

plain : (t s : ℤ) → s ≡ pos 0 → t ≡ t +ℤ s
plain t s e = omega (arith, ints, e)

module _ (d : Design) (split : Split) (agreed : Steps) (carried : Named → Option ℤ) (arrive : AreArrivals d split) (are : AreCarried d split agreed carried) (edge : ℕ × Tran) where
  -- one step of a path on: the next node arrives beyond it
  arrived : (m n : Named) (t x : ℤ) → IsBeyond split (arrival_named d split edge m) t → delay_between d split m n ≡ Some x → IsBeyond split (arrival_named d split edge n) (t +ℤ x)
  arrived m n t x at e =
      let v = beyond_value split (arrival_named d split edge m) t at in
      further split (arrival_named d split edge n) (t +ℤ x) (v.value +ℤ x) (arrive.steps edge m n v.value x v.is e) (later split v.value t x v.beyond)

  -- and is carried, where the node before it is, or the step is not agreed on
  turned : (m n : Named) (t x : ℤ) → IsBeyond split (arrival_named d split edge m) t → delay_between d split m n ≡ Some x → agreed (Some m) n ≡ false → IsBeyond split (carried n) (t +ℤ x)
  turned m n t x at e off =
      let v = beyond_value split (arrival_named d split edge m) t at in
      further split (carried n) (t +ℤ x) (v.value +ℤ x) (are.steps edge m n v.value x off v.is e) (later split v.value t x v.beyond)

  onward : (m n : Named) (t x : ℤ) → IsBeyond split (arrival_named d split edge m) t → IsBeyond split (carried m) t → delay_between d split m n ≡ Some x → IsBeyond split (carried n) (t +ℤ x)
  onward m n t x at gone e = elim (cases_Bool (agreed (Some m) n)) [
    | inl on ↦
        let v = beyond_value split (carried m) t gone in
        further split (carried n) (t +ℤ x) (v.value +ℤ x) (are.onward m n v.value x on v.is e) (later split v.value t x v.beyond)
    | inr off ↦ turned m n t x at e off
  ]

  -- what holds of a node of a path, in time since its start
  abbrev Holds : (Named → Option ℤ) → Named → List Named → ℤ → ℤ → Type 0
  Holds at n ms t sum = IsBeyond split (at (last_of n ms)) (t +ℤ sum)

  -- a path that is carried at a node is carried to its end, and arrives there
  gone_on : (n : Named) (ms : List Named) (t sum : ℤ) → IsBeyond split (arrival_named d split edge n) t → IsBeyond split (carried n) t → walk_delay d split n ms ≡ Some sum
      → Holds carried n ms t sum
  gone_on n [] t sum at gone e = subst (λ (z : ℤ). IsBeyond split (carried n) z) (plain t sum (sym (some_is e))) gone
  gone_on n (m ∷ ms) t sum at gone e =
      let p = sum_parts (delay_between d split n m) (walk_delay d split m ms) sum e in
      subst (λ (z : ℤ). IsBeyond split (carried (last_of m ms)) z) (grouped t p.one p.other sum p.sum)
      (gone_on m ms (t +ℤ p.one) p.other (arrived n m t p.one at p.first) (onward n m t p.one at gone p.first) p.rest)

  -- each path arrives at its end
  pub arrives_on : (n : Named) (ms : List Named) (t sum : ℤ) → IsBeyond split (arrival_named d split edge n) t → walk_delay d split n ms ≡ Some sum
      → Holds (arrival_named d split edge) n ms t sum
  arrives_on n [] t sum at e = subst (λ (z : ℤ). IsBeyond split (arrival_named d split edge n) z) (plain t sum (sym (some_is e))) at
  arrives_on n (m ∷ ms) t sum at e =
      let p = sum_parts (delay_between d split n m) (walk_delay d split m ms) sum e in
      subst (λ (z : ℤ). IsBeyond split (arrival_named d split edge (last_of m ms)) z) (grouped t p.one p.other sum p.sum)
      (arrives_on m ms (t +ℤ p.one) p.other (arrived n m t p.one at p.first) p.rest)

  -- a path of which some step further on is not agreed on
  turned_on : (n : Named) (ms : List Named) (t sum : ℤ) → IsBeyond split (arrival_named d split edge n) t → walk_delay d split n ms ≡ Some sum
      → (before : Option Named) → agreed before n ≡ true → steps_agreed agreed before n ms ≡ false → Holds carried n ms t sum
  turned_on n [] t sum at e before on off = let bad : true ≡ false = sym on ∙ off in absurd (cc)
  turned_on n (m ∷ ms) t sum at e before on off =
      let p = sum_parts (delay_between d split n m) (walk_delay d split m ms) sum e in
      let more : steps_agreed agreed (Some n) m ms ≡ false = sym (ap (λ (b : Bool). b && steps_agreed agreed (Some n) m ms) on) ∙ off in
      let there = arrived n m t p.one at p.first in
      subst (λ (z : ℤ). IsBeyond split (carried (last_of m ms)) z) (grouped t p.one p.other sum p.sum)
      (elim (cases_Bool (agreed (Some n) m)) [
        | inl here ↦ turned_on m ms (t +ℤ p.one) p.other there p.rest (Some n) here more
        | inr here ↦ gone_on m ms (t +ℤ p.one) p.other there (turned n m t p.one at p.first here) p.rest
      ])

  -- a path of which some step is not agreed on, from its start
  pub path_carried : (n : Named) (ms : List Named) (time sum : ℤ) → start_of d split n ≡ Some (edge, time) → walk_delay d split n ms ≡ Some sum
      → steps_agreed agreed None n ms ≡ false → Holds carried n ms time sum
  path_carried n ms time sum start e off =
      let at = arrive.starts n edge time start in
      elim (cases_Bool (agreed None n)) [
        | inl on ↦ turned_on n ms time sum at e None on off
        | inr here ↦ gone_on n ms time sum at (are.starts n edge time here start) e
      ]
