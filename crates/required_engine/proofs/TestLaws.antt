-- The tests of a node: their required times by numbers, and that what they are computed from has a value.

use Rattle.std.proofs.Common.{◌≡◌, ℕ, ℤ, ◌+ℤ◌, ◌-ℤ◌, Bool, true, false, not, List, [], ◌∷◌, filter, length, Option, None, Some, refl, sym, ap, subst, ◌∙◌, inl, inr}
use Rattle.std.specs.Prelude.{Contains, nat_lt, option_map, option_and_then, ◌&&◌, ◌||◌, if◌then◌else◌}
use Rattle.std.specs.List.{list_all, list_any, flat_map}
use Rattle.std.specs.Option.{option_map_or}
use Rattle.std.proofs.lemmas.Bool.{cases_Bool, and_from, true≢false}
use Rattle.timing_defs.specs.declared.kinds.Split.{Split}
use Rattle.timing_defs.specs.declared.kinds.Split.TheVariants.{Early, Late}
use Rattle.timing_defs.specs.declared.kinds.Tran.{Tran}
use Rattle.timing_defs.specs.declared.kinds.Kind.{Kind}
use Rattle.timing_defs.specs.declared.kinds.Kind.TheVariants.{Setup, Hold}
use Rattle.timing_defs.specs.declared.netlist.Inst.{Inst}
use Rattle.timing_defs.specs.declared.constraints.PortDelay.{PortDelay}
use Rattle.timing_defs.specs.declared.design.Design.{Design}
use Rattle.timing_defs.specs.Netlist.{Node, nodes, both_nodes, inst_pins, is_driver, same_split, same_tran}
use Rattle.timing_rules.specs.Clocking.{is_network}
use Rattle.timing_rules.specs.Rows.{launch_edges, outermost, outer_some, arrival, is_clock_at}
use Rattle.timing_rules.specs.Range.{fine_slew, fine_arrival, need_within, is_need_origin_at, is_need_origin, fine_test}
use Rattle.timing_rules.specs.Required.{limit_of}
use Rattle.timing_rules.specs.Tests.{Test, network_walk, walk_within, first_edge, library_tests, need_at, test_on, test_along, register_tests, output_test, port_tests, tests_at, separation_on, uncertainty_on}
use Rattle.timing_defs.specs.Kinds.{data_split, clock_split}
use Rattle.std.specs.Str.{bytes_eq}
use Rattle.netlist_store.specs.Numbering.{Stored}
use Rattle.node_tests.specs.declared.node_test.NodeTest.{NodeTest}
use Rattle.node_tests.specs.NodeTests.{IsTest, AreTests}
use Rattle.node_rows.proofs.FineLaws.{IsFine}
use Rattle.timing_defs.proofs.Members.{some_is, none_in, in_cases, found_in, kept_in, in_filter_map_back, in_map_back, later_in, first_in}
use Rattle.required_engine.specs.Behinds.{told_limit}

-- a test by its numbers gives the same time
module _ (d : Design) (s : Stored) (edge : ℕ × Tran) where
  limit_told : (kind : Kind) (told : NodeTest) (test : Test) → IsTest s told test → told_limit d kind edge told ≡ limit_of d kind edge test
  limit_told Setup told test is =
      ap (λ (x : ℤ). x +ℤ separation_on d Setup edge (told.capture_clock, told.capture_tran) -ℤ told.need.0 -ℤ uncertainty_on d Setup told.capture_clock) is.early
      ∙ ap (λ (x : ℤ). test.early +ℤ separation_on d Setup edge (told.capture_clock, told.capture_tran) -ℤ x -ℤ uncertainty_on d Setup told.capture_clock) is.need
      ∙ ap (λ (c : ℕ × Tran). test.early +ℤ separation_on d Setup edge c -ℤ test.need -ℤ uncertainty_on d Setup c.0) is.capture
  limit_told Hold told test is =
      ap (λ (x : ℤ). x +ℤ separation_on d Hold edge (told.capture_clock, told.capture_tran) +ℤ told.need.0 +ℤ uncertainty_on d Hold told.capture_clock) is.late
      ∙ ap (λ (x : ℤ). test.late +ℤ separation_on d Hold edge (told.capture_clock, told.capture_tran) +ℤ x +ℤ uncertainty_on d Hold told.capture_clock) is.need
      ∙ ap (λ (c : ℕ × Tran). test.late +ℤ separation_on d Hold edge c +ℤ test.need +ℤ uncertainty_on d Hold c.0) is.capture

  pub limits_told : (split : Split) (kind : Kind) (best : Option ℤ) (told : List NodeTest) (tests : List Test) → AreTests s told tests
      → outermost split (λ (t : NodeTest). Some (told_limit d kind edge t)) best told ≡ outermost split (λ (t : Test). Some (limit_of d kind edge t)) best tests
  limits_told split kind best [] [] are = refl
  limits_told split kind best [] (test ∷ tests) are = absurd are
  limits_told split kind best (t ∷ told) [] are = absurd are
  limits_told split kind best (t ∷ told) (test ∷ tests) are =
      ap (λ (x : ℤ). outermost split (λ (u : NodeTest). Some (told_limit d kind edge u)) (outer_some split best (Some x)) told) (limit_told kind t test are.0)
      ∙ limits_told split kind (outer_some split best (Some (limit_of d kind edge test))) told tests are.1

none_at : {X : Type 0} (f : X → Bool) (xs : List X) → list_any f xs ≡ false → (x : X) → Contains xs x → f x ≡ false
none_at f [] none x c = absurd (none_in x c)
none_at f (y ∷ ys) none x c = elim (in_cases y ys x c) [
  | inl e ↦ ap f (sym e) ∙ first (f y) (list_any f ys) none
  | inr d ↦ none_at f ys (second (f y) (list_any f ys) none) x d
]
  where
    first : (a b : Bool) → (a || b) ≡ false → a ≡ false
    first false b h = refl
    first true b h = absurd (true≢false h)

    second : (a b : Bool) → (a || b) ≡ false → b ≡ false
    second false b h = h
    second true b h = absurd (true≢false h)

all_from : {X : Type 0} (f : X → Bool) (xs : List X) → ((x : X) → Contains xs x → f x ≡ true) → list_all f xs ≡ true
all_from f [] each = refl
all_from f (x ∷ xs) each = and_from (f x) (list_all f xs) (each x (first_in x xs)) (all_from f xs (λ y c. each y (later_in x xs y c)))

-- what a value that is found on a value that may be there is found on
bound : {X Y : Type 0} (f : X → Option Y) (o : Option X) (y : Y) → option_and_then f o ≡ Some y → (x : X) × ((o ≡ Some x) × (f x ≡ Some y))
bound f None y e = absurd (cc)
bound f (Some x) y e = (x, (refl, e))

mapped_of : {X Y : Type 0} (f : X → Y) (o : Option X) (y : Y) → option_map f o ≡ Some y → (x : X) × ((o ≡ Some x) × (f x ≡ y))
mapped_of f None y e = absurd (cc)
mapped_of f (Some x) y e = (x, (refl, some_is e))

-- the test against a clock pin's node
record IsAlong (d : Design) (clock : Node) (walk : List Node) (test : Test) : Type 0 where
  clock_is : test.clock ≡ Some clock
  edge_is : first_edge d walk ≡ Some test.capture

module _ (d : Design) (kind : Kind) (inst : Inst) (target clock : Node) (walk : List Node) (test : Test) where
  along : test_along d kind inst target clock walk ≡ Some test → IsAlong d clock walk test
  along e =
      let a = bound
      (λ edge. option_and_then (λ need. option_and_then (λ early. option_map (test_on clock walk edge need early) (arrival d Late clock edge)) (arrival d Early clock edge)) (need_at d kind inst target clock))
      (first_edge d walk) test e in
      let b = bound (λ need. option_and_then (λ early. option_map (test_on clock walk a.0 need early) (arrival d Late clock a.0)) (arrival d Early clock a.0))
      (need_at d kind inst target clock) test a.1.1 in
      let c = bound (λ early. option_map (test_on clock walk a.0 b.0 early) (arrival d Late clock a.0)) (arrival d Early clock a.0) test b.1.1 in
      let m = mapped_of (test_on clock walk a.0 b.0 c.0) (arrival d Late clock a.0) test c.1.1 in
      record {
        clock_is = sym (ap (λ (t : Test). t.clock) m.1.1);
        edge_is = a.1.0 ∙ ap Some (ap (λ (t : Test). t.capture) m.1.1);
      }

edge_listed : (d : Design) (walk : List Node) (edge : ℕ × Tran) → first_edge d walk ≡ Some edge → Contains (launch_edges d) edge
edge_listed d [] edge e = absurd (cc)
edge_listed d (node ∷ walk) edge e =
    found_in (λ x. is_clock_at d.constraints.clocks x.0 node.pin.own && same_tran x.1 node.tran) (launch_edges d) edge e

walked : (d : Design) (node : Node) (walk : List Node) → network_walk d node ≡ Some walk → is_network d node.pin ≡ true
unfolding network_walk
walked d node walk e = elim (cases_Bool (is_network d node.pin)) [
  | inl h ↦ h
  | inr h ↦
      let f : None ≡ Some walk = subst (λ (b : Bool). (if b then walk_within d (length (nodes d)) node else None) ≡ Some walk) h e in
      absurd (cc)
]

-- the clock pins of the instance of a node are fine, and no setup or hold time there leaves its limit
module _ (d : Design) (kind : Kind) (target : Node) (need : is_need_origin d kind target ≡ false) (slewed : fine_slew d (data_split kind) target ≡ true)
    (clocks : (inst : Inst) → target.pin.owner ≡ Some inst → (clock : Node) → Contains (flat_map both_nodes (inst_pins d inst)) clock → IsFine d (clock_split kind) clock) where
  last_of : (a b c e : Bool) → a ≡ true → b ≡ true → c ≡ true → (a && b && c && not e) ≡ false → e ≡ true
  last_of true true true true g h k l = refl
  last_of true true true false g h k l = absurd (true≢false l)
  last_of false b c e g h k l = absurd (true≢false (sym g))
  last_of true false c e g h k l = absurd (true≢false (sym h))
  last_of true true false e g h k l = absurd (true≢false (sym k))

  three : (a b c e : Bool) → a ≡ true → b ≡ true → c ≡ true → e ≡ true → (a && b && c && e) ≡ true
  three a b c e f g h k = rw (f, g, h, k) refl

  register_fine : (inst : Inst) → target.pin.owner ≡ Some inst → (test : Test) → Contains (register_tests d kind target inst) test → fine_test d kind target test ≡ true
  register_fine inst own test c =
      let m = in_filter_map_back (λ clock. option_and_then (test_along d kind inst target clock) (network_walk d clock))
      (filter (λ clock. nat_lt 0 (length (library_tests d kind inst target clock))) (flat_map both_nodes (inst_pins d inst))) test c in
      let there = kept_in (λ clock. nat_lt 0 (length (library_tests d kind inst target clock))) (flat_map both_nodes (inst_pins d inst)) m.item m.within in
      let w = bound (test_along d kind inst target m.item) (network_walk d m.item) test m.same in
      let a = along d kind inst target m.item w.0 test w.1.1 in
      let f = clocks inst own m.item there in
      let none = none_at (is_need_origin_at d kind target inst) (flat_map both_nodes (inst_pins d inst))
      (sym (ap (λ o. option_map_or (λ i. list_any (is_need_origin_at d kind target i) (flat_map both_nodes (inst_pins d i))) o false) own) ∙ need) m.item there in
      let within : need_within d kind target m.item inst ≡ true =
      last_of (is_network d m.item.pin) (fine_slew d (data_split kind) target) (fine_slew d (clock_split kind) m.item) (need_within d kind target m.item inst)
      (walked d m.item w.0 w.1.0) slewed f.slew none in
      ap (λ o. option_map_or (λ clock. option_map_or (need_within d kind target clock) target.pin.owner true && fine_slew d (data_split kind) target
      && fine_slew d (clock_split kind) clock && fine_arrival d (clock_split kind) test.capture clock) o true) a.clock_is
      ∙ ap (λ o. option_map_or (need_within d kind target m.item) o true && fine_slew d (data_split kind) target
      && fine_slew d (clock_split kind) m.item && fine_arrival d (clock_split kind) test.capture m.item) own
      ∙ three (need_within d kind target m.item inst) (fine_slew d (data_split kind) target) (fine_slew d (clock_split kind) m.item)
      (fine_arrival d (clock_split kind) test.capture m.item) within slewed f.slew (f.arrivals test.capture (edge_listed d w.0 test.capture a.edge_is))

  port_fine : (test : Test) → Contains (port_tests d kind target) test → fine_test d kind target test ≡ true
  port_fine test c =
      let m = in_map_back (output_test kind)
      (filter (λ (o : PortDelay). bytes_eq o.port target.pin.own && same_split o.split (data_split kind) && same_tran o.tran target.tran) d.constraints.outputs) test c in
      ap (fine_test d kind target) (sym m.same)

  test_fine : (test : Test) → Contains (tests_at d kind target) test → fine_test d kind target test ≡ true
  unfolding tests_at
  test_fine test c = elim (cases_Bool (is_driver target.pin)) [
    | inl drives ↦ absurd (none_in test (subst (λ (b : Bool). Contains (if b then [] else option_map_or (register_tests d kind target) target.pin.owner (port_tests d kind target)) test) drives c))
    | inr sinks ↦ by target.pin.owner refl
        (subst (λ (b : Bool). Contains (if b then [] else option_map_or (register_tests d kind target) target.pin.owner (port_tests d kind target)) test) sinks c)
  ]
    where
      by : (o : Option Inst) → target.pin.owner ≡ o → Contains (option_map_or (register_tests d kind target) o (port_tests d kind target)) test → fine_test d kind target test ≡ true
      by None e h = port_fine test h
      by (Some inst) e h = register_fine inst e test h

  pub tests_fine : list_all (fine_test d kind target) (tests_at d kind target) ≡ true
  tests_fine = all_from (fine_test d kind target) (tests_at d kind target) test_fine
