-- The times of the tests of a node lie within their limits where nothing leaves its limit.

use Rattle.std.proofs.Common.{◌≡◌, ℕ, zero, suc, ◌+◌, ◌<◌, ℤ, pos, negsuc, Bool, true, false, cond, not, List, [], ◌∷◌, filter, length, Option, None, Some, refl, sym, ap, subst, ◌∙◌, inl, inr, arith}
use Rattle.std.specs.Prelude.{Contains, int_lt, nat_lt, ◌&&◌, if◌then◌else◌, option_map, option_and_then}
use Rattle.std.specs.List.{list_any, flat_map}
use Rattle.std.specs.Option.{option_map_or}
use Rattle.std.specs.Str.{bytes_eq}
use Rattle.std.proofs.lemmas.Bool.{cases_Bool, true≢false, and_parts, ltb-true}
use Rattle.sta_units.specs.Numbers.{is_within}
use Rattle.timing_defs.specs.declared.kinds.Split.{Split}
use Rattle.timing_defs.specs.declared.kinds.Split.TheVariants.{Early, Late}
use Rattle.timing_defs.specs.declared.kinds.Tran.{Tran}
use Rattle.timing_defs.specs.declared.kinds.Kind.{Kind}
use Rattle.timing_defs.specs.declared.kinds.Kind.TheVariants.{Setup, Hold}
use Rattle.timing_defs.specs.declared.library.CellTest.{CellTest}
use Rattle.timing_defs.specs.declared.constraints.Clock.{Clock}
use Rattle.timing_defs.specs.declared.constraints.PortDelay.{PortDelay}
use Rattle.timing_defs.specs.declared.netlist.Inst.{Inst}
use Rattle.timing_defs.specs.declared.design.Design.{Design}
use Rattle.timing_defs.specs.Documents.{is_port_delay}
use Rattle.timing_defs.specs.Lookup.{look}
use Rattle.timing_defs.specs.Netlist.{Pin, Node, pins, inst_pins, both_nodes, is_driver, same_split, same_tran}
use Rattle.timing_rules.specs.Clocking.{is_network}
use Rattle.timing_rules.specs.Rows.{outer_some, outermost, clock_edges, launch_edges, slew, arrival}
use Rattle.timing_rules.specs.Tests.{Test, network_walk, first_edge, library_tests, need_at, test_on, test_along, register_tests, output_need, output_test, port_tests, tests_at}
use Rattle.timing_defs.specs.Kinds.{data_split, clock_split}
use Rattle.timing_rules.specs.Range.{within_some, fine_slew, need_within, is_need_origin_at, is_need_origin}
use Rattle.netlist_store.specs.Numbering.{IsNumbered}
use Rattle.netlist_store.specs.Linked.{IsLinked}
use Rattle.pin_graph.specs.Graphs.{Graphed, IsGraph}
use Rattle.pin_graph.specs.RowTables.{AreRowsFine}
use Rattle.timing_defs.proofs.Members.{none_in, in_map_back, in_flat_map_back, in_filter_map_back, kept_in, all_in, any_in}
use Rattle.store_pins.proofs.PinLaws.{own_in, own_back, own_pins}
use Rattle.pin_graph.proofs.JoinLaws.{then_back, mapped_back}
use Rattle.node_tests.proofs.NodeFacts.{slews_fine}
use Rattle.path_search.specs.Slacks.{IsTestFine}
use Rattle.path_search.proofs.TakenConstraints.{taken}
use Rattle.path_search.proofs.Setting.{timed}
use Rattle.path_search.proofs.Prefixes.{walk_on}
use Rattle.path_search.proofs.Ranges.{arrivals_within}
use Rattle.path_search.proofs.TreeLaws.{edge_launched}

not_false : (b : Bool) → not b ≡ false → b ≡ true
not_false true h = refl
not_false false h = absurd (true≢false h)

both_pin : (pin : Pin) (node : Node) → Contains (both_nodes pin) node → node.pin ≡ pin
both_pin pin node (zero, low, is) = ap (λ (n : Node). n.pin) (sym is)
both_pin pin node (suc zero, low, is) = ap (λ (n : Node). n.pin) (sym is)
both_pin pin node (suc (suc i), low, is) = absurd (omega (arith, low))

-- a launch edge has a clock of the list
edge_low : (n : ℕ) (clocks : List Clock) (edge : ℕ × Tran) → Contains (clock_edges n clocks) edge → edge.0 < n + length clocks
edge_low n [] edge c = absurd (none_in edge c)
edge_low n (clock ∷ clocks) edge (zero, low, is) = (let e : n ≡ edge.0 = ap (λ (x : ℕ × Tran). x.0) is in omega (arith, e))
edge_low n (clock ∷ clocks) edge (suc zero, low, is) = (let e : n ≡ edge.0 = ap (λ (x : ℕ × Tran). x.0) is in omega (arith, e))
edge_low n (clock ∷ clocks) edge (suc (suc i), low, is) = (let r = edge_low (n + 1) clocks edge (i, omega (arith, low), is) in omega (arith, r))

pub launch_clock : (d : Design) (edge : ℕ × Tran) → Contains (launch_edges d) edge → edge.0 < length d.constraints.clocks
launch_clock d edge c = (let l = edge_low 0 d.constraints.clocks edge c in omega (arith, l))

-- the outermost of values within their limits
pick : (b : Bool) (x y : ℤ) → is_within x ≡ true → is_within y ≡ true → is_within (cond b x y) ≡ true
pick true x y h k = h
pick false x y h k = k

outer_within : (split : Split) (a b : Option ℤ) → within_some a ≡ true → within_some b ≡ true → within_some (outer_some split a b) ≡ true
outer_within split None b h k = k
outer_within split (Some x) None h k = h
outer_within Early (Some x) (Some y) h k = pick (int_lt y x) y x k h
outer_within Late (Some x) (Some y) h k = pick (int_lt y x) x y h k

outermost_within : {X : Type 0} (split : Split) (f : X → Option ℤ) (best : Option ℤ) (xs : List X) → within_some best ≡ true
    → ((x : X) → Contains xs x → within_some (f x) ≡ true) → within_some (outermost split f best xs) ≡ true
outermost_within split f best [] h each = h
outermost_within split f best (x ∷ xs) h each =
    outermost_within split f (outer_some split best (f x)) xs (outer_within split best (f x) h (each x (0, omega arith, refl)))
    (λ y c. each y (suc c.0, (let l = c.1 in omega (arith, l)), c.2))

-- what is left of a test of four parts once three hold
last_of : (a b c e : Bool) → a ≡ true → b ≡ true → c ≡ true → (a && b && c && not e) ≡ false → e ≡ true
last_of true true true e g h k l = not_false e l
last_of false b c e g h k l = absurd (true≢false (sym g))
last_of true false c e g h k l = absurd (true≢false (sym h))
last_of true true false e g h k l = absurd (true≢false (sym k))

none_at : {X : Type 0} (f : X → Bool) (xs : List X) → list_any f xs ≡ false → (x : X) → Contains xs x → f x ≡ false
none_at f xs none x c = elim (cases_Bool (f x)) [
  | inr e ↦ e
  | inl e ↦ absurd (true≢false (sym (any_in f xs x c e) ∙ none))
]

need_of_output : (kind : Kind) (x : ℤ) → is_within x ≡ true → is_within (output_need kind x) ≡ true
need_of_output Setup x h = h
need_of_output Hold (pos zero) h = h
need_of_output Hold (pos (suc n)) h = h
need_of_output Hold (negsuc n) h = h

output_fine : (d : Design) (kind : Kind) (o : PortDelay) → is_port_delay (length d.constraints.clocks) o ≡ true → IsTestFine d (output_test kind o)
output_fine d kind o h =
    let p = and_parts (nat_lt o.clock (length d.constraints.clocks)) (is_within o.delay.0) h in
    record {
      clock = ltb-true o.clock (length d.constraints.clocks) p.0;
      need = need_of_output kind o.delay.0 p.1;
      early = refl;
      late = refl;
      walk = refl;
    }

module _ (g : Graphed) (num : IsNumbered g.stored) (linked : IsLinked g.stored.design) (is : IsGraph g) (fine : AreRowsFine g.stored.design) where
  -- the time that a register's tests at a clock pin's node need
  need_fine : (kind : Kind) (inst : Inst) (target clock : Node) → Contains (pins g.stored.design) target.pin → Contains (pins g.stored.design) clock.pin
      → is_network g.stored.design clock.pin ≡ true → is_need_origin_at g.stored.design kind target inst clock ≡ false
      → within_some (need_at g.stored.design kind inst target clock) ≡ true
  need_fine kind inst target clock tc cc net none =
      let a = (slews_fine g g.stored refl num linked is fine (data_split kind) target tc).0 in
      let b = (slews_fine g g.stored refl num linked is fine (clock_split kind) clock cc).0 in
      let all = last_of (is_network g.stored.design clock.pin) (fine_slew g.stored.design (data_split kind) target) (fine_slew g.stored.design (clock_split kind) clock)
      (need_within g.stored.design kind target clock inst) net a b none in
      outermost_within Late
      (λ (test : CellTest). option_and_then (λ x. option_map (look test.need x) (slew g.stored.design (data_split kind) target)) (slew g.stored.design (clock_split kind) clock))
      None (library_tests g.stored.design kind inst target clock) refl
      (λ test c. one test (slew g.stored.design (clock_split kind) clock) (slew g.stored.design (data_split kind) target)
      (all_in (λ (t : CellTest). option_map_or (λ x. option_map_or (λ y. is_within (look t.need x y)) (slew g.stored.design (data_split kind) target) true)
      (slew g.stored.design (clock_split kind) clock) true) (library_tests g.stored.design kind inst target clock) test all c))
    where
      one : (test : CellTest) (x y : Option ℤ) → option_map_or (λ a. option_map_or (λ b. is_within (look test.need a b)) y true) x true ≡ true
          → within_some (option_and_then (λ a. option_map (look test.need a) y) x) ≡ true
      one test None y h = refl
      one test (Some x) None h = refl
      one test (Some x) (Some y) h = h

  some_within : (o : Option ℤ) (x : ℤ) → o ≡ Some x → within_some o ≡ true → is_within x ≡ true
  some_within o x e h = sym (ap within_some e) ∙ h

  along_fine : (kind : Kind) (inst : Inst) (target clock : Node) (walk : List Node) (test : Test) → Contains (pins g.stored.design) target.pin → Contains (pins g.stored.design) clock.pin
      → network_walk g.stored.design clock ≡ Some walk → is_need_origin_at g.stored.design kind target inst clock ≡ false
      → test_along g.stored.design kind inst target clock walk ≡ Some test → IsTestFine g.stored.design test
  along_fine kind inst target clock walk test tc cc told none e =
      let a = then_back (λ edge. option_and_then (λ need. option_and_then (λ early. option_map (test_on clock walk edge need early) (arrival g.stored.design Late clock edge))
      (arrival g.stored.design Early clock edge)) (need_at g.stored.design kind inst target clock)) (first_edge g.stored.design walk) test e in
      let b = then_back (λ need. option_and_then (λ early. option_map (test_on clock walk a.0 need early) (arrival g.stored.design Late clock a.0)) (arrival g.stored.design Early clock a.0))
      (need_at g.stored.design kind inst target clock) test a.2 in
      let c = then_back (λ early. option_map (test_on clock walk a.0 b.0 early) (arrival g.stored.design Late clock a.0)) (arrival g.stored.design Early clock a.0) test b.2 in
      let f = mapped_back (test_on clock walk a.0 b.0 c.0) (arrival g.stored.design Late clock a.0) test c.2 in
      let launched = edge_launched g.stored.design clock a.0 (ap (option_and_then (first_edge g.stored.design)) told ∙ a.1) in
      subst (λ (t : Test). IsTestFine g.stored.design t) f.2 (record {
        clock = launch_clock g.stored.design a.0 launched;
        need = some_within (need_at g.stored.design kind inst target clock) b.0 b.1 (need_fine kind inst target clock tc cc (walk_on g.stored.design (timed g num linked is) clock walk told) none);
        early = some_within (arrival g.stored.design Early clock a.0) c.0 c.1 (arrivals_within g num linked is fine Early clock cc a.0 launched);
        late = some_within (arrival g.stored.design Late clock a.0) f.0 f.1 (arrivals_within g num linked is fine Late clock cc a.0 launched);
        walk = told;
      })

  sink_tests : (kind : Kind) (target : Node) (test : Test) → Contains (tests_at g.stored.design kind target) test
      → Contains (option_map_or (register_tests g.stored.design kind target) target.pin.owner (port_tests g.stored.design kind target)) test
  unfolding tests_at
  sink_tests kind target test c = by (is_driver target.pin) c
    where
      by : (b : Bool) → Contains (if b then [] else option_map_or (register_tests g.stored.design kind target) target.pin.owner (port_tests g.stored.design kind target)) test
          → Contains (option_map_or (register_tests g.stored.design kind target) target.pin.owner (port_tests g.stored.design kind target)) test
      by true h = absurd (none_in test h)
      by false h = h

  pub tests_fine : (kind : Kind) (target : Node) → Contains (pins g.stored.design) target.pin → is_need_origin g.stored.design kind target ≡ false
      → (test : Test) → Contains (tests_at g.stored.design kind target) test → IsTestFine g.stored.design test
  tests_fine kind target there calm test c = by target.pin.owner refl (sink_tests kind target test c)
    where
      by : (o : Option Inst) → target.pin.owner ≡ o
          → Contains (option_map_or (register_tests g.stored.design kind target) o (port_tests g.stored.design kind target)) test → IsTestFine g.stored.design test
      by None own h =
          let m = in_map_back (output_test kind)
          (filter (λ (o : PortDelay). bytes_eq o.port target.pin.own && same_split o.split (data_split kind) && same_tran o.tran target.tran) g.stored.design.constraints.outputs) test h in
          let listed =
          kept_in (λ (o : PortDelay). bytes_eq o.port target.pin.own && same_split o.split (data_split kind) && same_tran o.tran target.tran) g.stored.design.constraints.outputs m.item m.within in
          subst (λ (t : Test). IsTestFine g.stored.design t) m.same (output_fine g.stored.design kind m.item
          (all_in (is_port_delay (length g.stored.design.constraints.clocks)) g.stored.design.constraints.outputs m.item (taken g.stored.design.constraints linked.constraints).outputs listed))
      by (Some inst) own h =
          let m = in_filter_map_back (λ clock. option_and_then (test_along g.stored.design kind inst target clock) (network_walk g.stored.design clock))
          (filter (λ clock. nat_lt 0 (length (library_tests g.stored.design kind inst target clock))) (flat_map both_nodes (inst_pins g.stored.design inst))) test h in
          let w = then_back (test_along g.stored.design kind inst target m.item) (network_walk g.stored.design m.item) test m.same in
          let listed =
          kept_in (λ clock. nat_lt 0 (length (library_tests g.stored.design kind inst target clock))) (flat_map both_nodes (inst_pins g.stored.design inst)) m.item m.within in
          let near = in_flat_map_back both_nodes (inst_pins g.stored.design inst) m.item listed in
          let mine = own_back g.stored.design linked target.pin inst there own in
          let its = own_pins g.stored.design linked inst near.item mine.inst near.within in
          let inside : Contains (pins g.stored.design) m.item.pin =
          subst (λ (q : Pin). Contains (pins g.stored.design) q) (sym its.same ∙ sym (both_pin near.item m.item near.inside))
          (own_in g.stored.design linked inst its.pin mine.inst its.within) in
          let none =
          none_at (is_need_origin_at g.stored.design kind target inst) (flat_map both_nodes (inst_pins g.stored.design inst))
          (sym (ap (λ o. option_map_or (λ i. list_any (is_need_origin_at g.stored.design kind target i) (flat_map both_nodes (inst_pins g.stored.design i))) o false) own) ∙ calm) m.item listed in
          along_fine kind inst target m.item w.0 test there inside w.1 none w.2
