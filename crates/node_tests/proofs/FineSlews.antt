-- Where no quantity of slews leaves its limit, each node's slew has a value within its limit, or the node has none.

use Rattle.std.proofs.Common.{◌≡◌, ℕ, zero, suc, ◌<◌, ℤ, Bool, true, false, not, List, [], ◌∷◌, Option, None, Some, refl, sym, ap, ◌∙◌, inl, inr, arith}
use Rattle.std.specs.Prelude.{Contains, is_none, ◌&&◌, ◌||◌, if◌then◌else◌}
use Rattle.std.specs.List.{list_any, list_all}
use Rattle.std.specs.Option.{option_map_or}
use Rattle.std.proofs.lemmas.Bool.{cases_Bool, true≢false, and_from, and_parts}
use Rattle.timing_defs.specs.declared.kinds.Split.{Split}
use Rattle.timing_defs.specs.declared.design.Design.{Design}
use Rattle.timing_defs.specs.Netlist.{Node, net_of, is_driver}
use Rattle.timing_rules.specs.Rows.{arcs_in, slew, launch_edges}
use Rattle.timing_rules.specs.Range.{within_some, looked_within, is_loaded, net_wires_within, slew_parts, slew_inputs, fine_slew, is_looked_origin, is_scaled_origin, is_slew_origin, is_arrival_origin, is_forward_origin}
use Rattle.timing_rules.proofs.RowLaws.{ArePlacedNodes, first_in, later_in}

all_from : {X : Type 0} (f : X → Bool) (xs : List X) → ((x : X) → Contains xs x → f x ≡ true) → list_all f xs ≡ true
all_from f [] each = refl
all_from f (x ∷ xs) each = and_from (f x) (list_all f xs) (each x (first_in x xs)) (all_from f xs (λ y c. each y (later_in x xs y c)))

either_none : (a b : Bool) → (a || b) ≡ false → (a ≡ false) × (b ≡ false)
either_none false b h = (refl, h)
either_none true b h = absurd (true≢false h)

none_at : {X : Type 0} (f : X → Bool) (xs : List X) → list_any f xs ≡ false → (x : X) → Contains xs x → f x ≡ false
none_at f [] none x (i, low, is) = absurd (omega (arith, low))
none_at f (y ∷ ys) none x (zero, low, is) = ap f (sym is) ∙ (either_none (f y) (list_any f ys) none).0
none_at f (y ∷ ys) none x (suc i, low, is) = none_at f ys (either_none (f y) (list_any f ys) none).1 x (i, omega (arith, low), is)

not_false : (b : Bool) → not b ≡ false → b ≡ true
not_false true h = refl
not_false false h = absurd (true≢false h)

or_right : (a b : Bool) → b ≡ true → (a || b) ≡ true
or_right true b h = refl
or_right false b h = h

-- what is left of a test of four parts once three hold
last_of : (a b c e : Bool) → a ≡ true → b ≡ true → c ≡ true → (a && b && c && e) ≡ false → e ≡ false
last_of true true true e g h k l = l
last_of false b c e g h k l = absurd (true≢false (sym g))
last_of true false c e g h k l = absurd (true≢false (sym h))
last_of true true false e g h k l = absurd (true≢false (sym k))

-- no quantity that is computed at a node leaves its limit
pub record IsCalm (d : Design) (split : Split) (Stands : Node → Type 0) : Type 0 where
  pub calm : (n : Node) → Stands n → is_forward_origin d split n ≡ false
  pub loaded : (n : Node) → Stands n → is_loaded d split n ≡ true
  pub wired : (n : Node) → Stands n → net_wires_within d split (net_of n.pin) ≡ true

module _ (d : Design) (split : Split) (Stands : Node → Type 0) (place : Node → ℕ) (placed : ArePlacedNodes d Stands place) (still : IsCalm d split Stands)
    (fixed : (n : Node) → Stands n → fine_slew d split n ≡ (slew_inputs d split (fine_slew d split) n && within_some (slew d split n))) where
  module _ (to : Node) (s : Stands to) (before : (from : Node) → Contains (arcs_in d to) from → fine_slew d split from ≡ true) where
    parts : (list_any (is_looked_origin d split to) (arcs_in d to) ≡ false) × (is_slew_origin d split to ≡ false)
    parts =
        let x = either_none (list_any (is_looked_origin d split to) (arcs_in d to) || list_any (is_scaled_origin d split to) (arcs_in d to) || is_slew_origin d split to)
        (list_any (is_arrival_origin d split to) (launch_edges d)) (still.calm to s) in
        let y = either_none (list_any (is_looked_origin d split to) (arcs_in d to) || list_any (is_scaled_origin d split to) (arcs_in d to)) (is_slew_origin d split to) x.0 in
        let z = either_none (list_any (is_looked_origin d split to) (arcs_in d to)) (list_any (is_scaled_origin d split to) (arcs_in d to)) y.0 in
        (z.0, y.1)

    module _ (from : Node) (c : Contains (arcs_in d to) from) where
      looked : (x : ℤ) → slew d split from ≡ Some x → is_driver to.pin ≡ true → looked_within d split from to (λ arc. arc.slew) x ≡ true
      looked x e drives =
          let none = last_of (is_driver to.pin) (fine_slew d split from) (is_loaded d split to)
          (option_map_or (λ y. not (looked_within d split from to (λ arc. arc.slew) y) || not (looked_within d split from to (λ arc. arc.delay) y)) (slew d split from) false)
          drives (before from c) (still.loaded to s) (none_at (is_looked_origin d split to) (arcs_in d to) parts.0 from c) in
          let both = sym (ap (λ o. option_map_or (λ y. not (looked_within d split from to (λ arc. arc.slew) y) || not (looked_within d split from to (λ arc. arc.delay) y)) o false) e) ∙ none in
          not_false (looked_within d split from to (λ arc. arc.slew) x)
          (either_none (not (looked_within d split from to (λ arc. arc.slew) x)) (not (looked_within d split from to (λ arc. arc.delay) x)) both).0

      its_parts : slew_parts d split from to ≡ true
      its_parts = by (slew d split from) refl
        where
          by : (o : Option ℤ) → slew d split from ≡ o → slew_parts d split from to ≡ true
          by None e = ap (λ o. option_map_or (λ x. if is_driver to.pin then is_loaded d split to && looked_within d split from to (λ arc. arc.slew) x else net_wires_within d split (net_of to.pin)) o true) e
          by (Some x) e =
              ap (λ o. option_map_or (λ y. if is_driver to.pin then is_loaded d split to && looked_within d split from to (λ arc. arc.slew) y else net_wires_within d split (net_of to.pin)) o true) e
              ∙ elim (cases_Bool (is_driver to.pin)) [
                | inl g ↦ rw g (and_from (is_loaded d split to) (looked_within d split from to (λ arc. arc.slew) x) (still.loaded to s) (looked x e g))
                | inr g ↦ rw g (still.wired to s)
              ]

    inputs : slew_inputs d split (fine_slew d split) to ≡ true
    inputs =
        all_from (λ from. is_none (slew d split from) || (fine_slew d split from && slew_parts d split from to)) (arcs_in d to)
        (λ from c. or_right (is_none (slew d split from)) (fine_slew d split from && slew_parts d split from to)
        (and_from (fine_slew d split from) (slew_parts d split from to) (before from c) (its_parts from c)))

    low : within_some (slew d split to) ≡ true
    low = not_false (within_some (slew d split to)) (rest (slew_inputs d split (fine_slew d split) to) (not (within_some (slew d split to))) inputs parts.1)
      where
        rest : (a b : Bool) → a ≡ true → (a && b) ≡ false → b ≡ false
        rest true b h k = k
        rest false b h k = absurd (true≢false (sym h))

  fine_below : (k : ℕ) (n : Node) → Stands n → place n < k → fine_slew d split n ≡ true
  fine_below zero n s l = absurd (omega (arith, l))
  fine_below (suc k) n s l =
      let before : (from : Node) → Contains (arcs_in d n) from → fine_slew d split from ≡ true =
      λ from c. fine_below k from (placed.closed n s from c) (let up = placed.rising n s from c in omega (arith, l, up)) in
      fixed n s ∙ and_from (slew_inputs d split (fine_slew d split) n) (within_some (slew d split n)) (inputs n s before) (low n s before)

  pub all_fine : (n : Node) → Stands n → fine_slew d split n ≡ true
  all_fine n s = fine_below (suc (place n)) n s (omega arith)

  pub slew_within : (n : Node) → Stands n → within_some (slew d split n) ≡ true
  slew_within n s = (and_parts (slew_inputs d split (fine_slew d split) n) (within_some (slew d split n)) (sym (fixed n s) ∙ all_fine n s)).1
