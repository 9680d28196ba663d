-- Along the clock network an arrival is the start time and the delays of the walk.

use Rattle.std.proofs.Common.{◌≡◌, ℕ, ℤ, ◌+ℤ◌, pos, Bool, true, false, not, List, [], ◌∷◌, ◌++◌, map, Option, None, Some, refl, sym, ap, ◌∙◌, arith}
use Rattle.std.specs.Prelude.{Contains, cond, int_lt, ◌&&◌, if◌then◌else◌}
use Rattle.std.specs.Option.{option_map_or}
use Rattle.std.proofs.lemmas.Int.{ints}
use Rattle.std.proofs.lemmas.Bool.{true≢false}
use Rattle.timing_defs.specs.declared.kinds.Split.{Split}
use Rattle.timing_defs.specs.declared.kinds.Split.TheVariants.{Early, Late}
use Rattle.timing_defs.specs.declared.kinds.Tran.{Tran}
use Rattle.timing_defs.specs.declared.kinds.Tran.TheVariants.{Rise}
use Rattle.timing_defs.specs.declared.netlist.Inst.{Inst}
use Rattle.timing_defs.specs.declared.design.Design.{Design}
use Rattle.timing_defs.specs.Netlist.{Node, pins, is_driver, same_tran}
use Rattle.timing_rules.specs.Clocking.{is_network, is_clock_port}
use Rattle.timing_rules.specs.Rows.{arcs_in, outer, outer_some, outermost, is_input_port, is_clock_at, input_delay, start_at, delay_from, delay, arrival, arrival_of, launch_edges, step, row}
use Rattle.timing_defs.specs.RowTimes.{time_on, times_in, plus_some}
use Rattle.timing_rules.specs.Paths.{Named, named, delay_between, walk_delay, last_of}
use Rattle.timing_rules.proofs.RowLaws.{first_in, later_in}
use Rattle.timing_defs.proofs.Members.{none_in}
use Rattle.node_rows.proofs.FineLaws.{time_told}
use Rattle.node_tests.proofs.OneBefore.{port_first}
use Rattle.path_search.specs.Runs.{AreSteps, end_of, IsTimed, IsNetworkWalk}
use Rattle.path_search.proofs.Prefixes.{network_port, later_port, from_one}
use Rattle.path_search.proofs.NodeNames.{joined_in}

-- sums that may not be there
pub plus_assoc : (a b c : Option ℤ) → plus_some (plus_some a b) c ≡ plus_some a (plus_some b c)
plus_assoc None b c = refl
plus_assoc (Some x) None c = refl
plus_assoc (Some x) (Some y) None = refl
plus_assoc (Some x) (Some y) (Some z) = ap Some (let e : (x +ℤ y) +ℤ z ≡ x +ℤ (y +ℤ z) = omega (arith, ints) in e)

pub plus_none : (a : Option ℤ) → plus_some a (Some (pos 0)) ≡ a
plus_none None = refl
plus_none (Some x) = ap Some (let e : x +ℤ pos 0 ≡ x = omega (arith, ints) in e)

pub none_plus : (a : Option ℤ) → plus_some (Some (pos 0)) a ≡ a
none_plus None = refl
none_plus (Some x) = ap Some (let e : pos 0 +ℤ x ≡ x = omega (arith, ints) in e)

pub record IsSum (a b : Option ℤ) (sum : ℤ) : Type 0 where
  pub left : ℤ
  pub left_is : a ≡ Some left
  pub right : ℤ
  pub right_is : b ≡ Some right
  pub both : left +ℤ right ≡ sum

pub sum_back : (a b : Option ℤ) (sum : ℤ) → plus_some a b ≡ Some sum → IsSum a b sum
sum_back None b sum e = absurd (cc)
sum_back (Some x) None sum e = absurd (cc)
sum_back (Some x) (Some y) sum e = record { left = x; left_is = refl; right = y; right_is = refl; both = (let f : x +ℤ y ≡ sum = cc in f) }

-- the walk of one list and then another
pub walk_append : (d : Design) (split : Split) (n : Named) (ms more : List Named)
    → walk_delay d split n (ms ++ more) ≡ plus_some (walk_delay d split n ms) (walk_delay d split (last_of n ms) more)
walk_append d split n [] more = sym (none_plus (walk_delay d split n more))
walk_append d split n (m ∷ ms) more =
    ap (plus_some (delay_between d split n m)) (walk_append d split m ms more)
    ∙ sym (plus_assoc (delay_between d split n m) (walk_delay d split m ms) (walk_delay d split (last_of m ms) more))

-- the outermost of one value is that value
same_cond : (b : Bool) (x : ℤ) → cond b x x ≡ x
same_cond true x = refl
same_cond false x = refl

outer_self : (split : Split) (x : ℤ) → outer split x x ≡ x
outer_self Early x = same_cond (int_lt x x) x
outer_self Late x = same_cond (int_lt x x) x

outer_again : (split : Split) (o : Option ℤ) → outer_some split o o ≡ o
outer_again split None = refl
outer_again split (Some x) = ap Some (outer_self split x)

module _ {X : Type 0} (split : Split) (f : X → Option ℤ) (a : X) where
  outer_kept : (xs : List X) → ((x : X) → Contains xs x → x ≡ a) → outermost split f (f a) xs ≡ f a
  outer_kept [] all = refl
  outer_kept (x ∷ xs) all =
      ap (λ o. outermost split f o xs) (ap (λ y. outer_some split (f a) (f y)) (all x (first_in x xs)) ∙ outer_again split (f a))
      ∙ outer_kept xs (λ y c. all y (later_in x xs y c))

  outer_same : (xs : List X) → Contains xs a → ((x : X) → Contains xs x → x ≡ a) → outermost split f None xs ≡ f a
  outer_same [] c all = absurd (none_in a c)
  outer_same (x ∷ xs) c all =
      ap (λ y. outermost split f (f y) xs) (all x (first_in x xs)) ∙ outer_kept xs (λ y e. all y (later_in x xs y e))

or_none : (o : Option ℤ) → option_map_or Some o None ≡ o
or_none None = refl
or_none (Some x) = refl

module _ (d : Design) (t : IsTimed d) (split : Split) (edge : ℕ × Tran) (launched : Contains (launch_edges d) edge) where
  pub arrival_is : (n : Node) → Contains (pins d) n.pin → arrival d split n edge ≡ arrival_of d split (row d) n edge
  arrival_is n c = ap (λ r. time_on (times_in split r) edge) (t.stepped n c) ∙ by split
    where
      by : (s : Split) → time_on (times_in s (step d (row d) n)) edge ≡ arrival_of d s (row d) n edge
      by Early = time_told (arrival_of d Early (row d) n) edge (launch_edges d) launched
      by Late = time_told (arrival_of d Late (row d) n) edge (launch_edges d) launched

  -- a node that starts arrives then
  pub arrival_starts : (n : Node) → Contains (pins d) n.pin → (time : ℤ) → start_at d split n edge ≡ Some time → arrival d split n edge ≡ Some time
  arrival_starts n c time e =
      arrival_is n c
      ∙ ap (λ o. option_map_or Some o (outermost split (λ from. plus_some (time_on (times_in split (row d from)) edge) (delay_from d split from n (row d from))) None (arcs_in d n))) e

  pub arrival_port : (n : Node) → Contains (pins d) n.pin → is_clock_port d n.pin ≡ true → arrival d split n edge ≡ start_at d split n edge
  arrival_port n c e =
      arrival_is n c
      ∙ ap (λ xs. option_map_or Some (start_at d split n edge) (outermost split (λ from. plus_some (time_on (times_in split (row d from)) edge) (delay_from d split from n (row d from))) None xs))
      (port_first d n e)
      ∙ or_none (start_at d split n edge)

  no_start : (n from : Node) → is_network d n.pin ≡ true → Contains (arcs_in d n) from → start_at d split n edge ≡ None
  no_start n from net c = by n.pin.owner refl
    where
      by : (o : Option Inst) → n.pin.owner ≡ o → start_at d split n edge ≡ None
      by None own = absurd (true≢false (sym (network_port d n.pin net own) ∙ later_port d t n from c))
      by (Some inst) own =
          let none : is_input_port n.pin ≡ false = ap (λ o. option_map_or (λ (i : Inst). false) o true && is_driver n.pin) own in
          ap (λ (b : Bool). if not b then None else (if is_clock_port d n.pin
          then (if is_clock_at d.constraints.clocks edge.0 n.pin.own && same_tran edge.1 n.tran then Some (pos 0) else None)
          else (if same_tran edge.1 Rise then input_delay d.constraints.inputs split n edge.0 else None))) none

  -- a network node arrives the delay of the arc after the one node before it
  pub arrival_more : (n from : Node) → Contains (pins d) n.pin → is_network d n.pin ≡ true → Contains (arcs_in d n) from
      → ((x : Node) → Contains (arcs_in d n) x → x ≡ from) → arrival d split n edge ≡ plus_some (arrival d split from edge) (delay d split from n)
  arrival_more n from there net c one =
      arrival_is n there
      ∙ ap (λ o. option_map_or Some o (outermost split (λ f. plus_some (time_on (times_in split (row d f)) edge) (delay_from d split f n (row d f))) None (arcs_in d n)))
      (no_start n from net c)
      ∙ outer_same split (λ f. plus_some (time_on (times_in split (row d f)) edge) (delay_from d split f n (row d f))) from (arcs_in d n) c one

  -- the arrival at the end of a run of network nodes is that at its first and the delays of the run
  pub sums_along : (n : Node) (ms : List Node) → AreSteps d n ms
      → arrival d split (end_of n ms) edge ≡ plus_some (arrival d split n edge) (walk_delay d split (named n) (map named ms))
  sums_along n [] s = sym (plus_none (arrival d split n edge))
  sums_along n (m ∷ ms) s =
      sums_along m ms s.1
      ∙ ap (λ o. plus_some o (walk_delay d split (named m) (map named ms)))
      (arrival_more m n s.0.within s.0.network s.0.arc (from_one d t m n s.0.within s.0.network s.0.arc))
      ∙ plus_assoc (arrival d split n edge) (delay d split n m) (walk_delay d split (named m) (map named ms))
      ∙ ap (λ o. plus_some (arrival d split n edge) (plus_some o (walk_delay d split (named m) (map named ms)))) (sym (joined_in d t split n m s.0.within s.0.arc))

  -- the arrival of a network node, by the walk to it: none exactly where the port does not start on the edge or a delay is none
  pub sums_of_walk : (n : Node) (w : List Node) (r : IsNetworkWalk d w n)
      → arrival d split n edge ≡ plus_some (start_at d split r.first edge) (walk_delay d split (named r.first) (map named r.rest))
  sums_of_walk n w r =
      ap (λ m. arrival d split m edge) (sym r.ends) ∙ sums_along r.first r.rest r.steps
      ∙ ap (λ o. plus_some o (walk_delay d split (named r.first) (map named r.rest))) (arrival_port r.first r.within r.port)

  pub sums_from_port : (n : Node) (w : List Node) (r : IsNetworkWalk d w n) → start_at d split r.first edge ≡ Some (pos 0)
      → arrival d split n edge ≡ walk_delay d split (named r.first) (map named r.rest)
  sums_from_port n w r e =
      sums_of_walk n w r ∙ ap (λ o. plus_some o (walk_delay d split (named r.first) (map named r.rest))) e
      ∙ none_plus (walk_delay d split (named r.first) (map named r.rest))
