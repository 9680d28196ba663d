-- The required times of a node in one split, and of a node, as the evaluation has them: the graph is that of a store.

use Rattle.std.proofs.Common.{◌≡◌, ℕ, ◌<◌, ℤ, Bool, true, false, List, [], map, All, Option, None, Some, Result, refl, sym, ap, subst, ◌∙◌, inl, inr}
use Rattle.std.specs.Prelude.{Contains, slice_get, option_map, ◌&&◌, ◌||◌, if◌then◌else◌, IfOk, IfErr, OnOk}
use Rattle.std.specs.List.{list_any}
use Rattle.std.specs.Option.{option_map_or}
use Rattle.std.specs.Str.{bytes_eq}
use Rattle.std.proofs.lemmas.Bool.{or_parts, or_cases, and_from, false≢true}
use Rattle.std.proofs.lemmas.Option.{cond_some}
use Rattle.timing_defs.specs.declared.kinds.Split.{Split}
use Rattle.timing_defs.specs.declared.kinds.Split.TheVariants.{Early, Late}
use Rattle.timing_defs.specs.declared.kinds.Tran.{Tran}
use Rattle.timing_defs.specs.declared.kinds.Kind.{Kind}
use Rattle.timing_defs.specs.declared.kinds.Kind.TheVariants.{Setup, Hold}
use Rattle.timing_defs.specs.declared.edge_times.EdgeTime.{EdgeTime}
use Rattle.timing_defs.specs.declared.rows.NodeRow.{NodeRow}
use Rattle.timing_defs.specs.declared.rows.BackRow.{BackRow}
use Rattle.timing_defs.specs.declared.design.Design.{Design}
use Rattle.timing_defs.specs.declared.faults.Fault.{Fault}
use Rattle.timing_defs.specs.declared.faults.Fault.TheVariants as fault
use Rattle.timing_defs.specs.declared.faults.Place.TheVariants.{Pin as at_pin}
use Rattle.timing_defs.specs.Netlist.{Pin, Node, name_of, nodes}
use Rattle.timing_rules.specs.Rows.{outermost, launch_edges, delay, row, empty_row}
use Rattle.timing_defs.specs.RowTimes.{time_on, times_in}
use Rattle.timing_rules.specs.Tests.{Test, tests_at, is_endpoint}
use Rattle.timing_rules.specs.Required.{arcs_out, limit_of, less_some, required_of, back_row, empty_back}
use Rattle.timing_defs.specs.Kinds.{kind_of, other_split}
use Rattle.timing_defs.specs.RowTimes.{back_times}
use Rattle.timing_rules.specs.Range.{fine_required, required_inputs, is_required_origin, is_need_origin, is_back_origin, is_forward_origin, is_node_origin, is_origin}
use Rattle.netlist_store.specs.Linked.{IsLinked}
use Rattle.netlist_store.specs.Numbering.{Stored, name_at, pin_numbered, is_number, IsNumbered}
use Rattle.arc_delays.specs.Delays.{AreDelays}
use Rattle.node_rows.specs.Evaluation.{times_on, are_wide_times, IsPlaced}
use Rattle.node_rows.proofs.ResultLaws.{ok_more, err_more}
use Rattle.node_tests.specs.declared.node_test.NodeTest.{NodeTest}
use Rattle.node_tests.specs.NodeTests.{AreTests, tests_numbered, is_wide_numbered, name_numbered, IsTestFault}
use Rattle.pin_graph.specs.Nodes.{node_at, node_bound, pin_under, tran_under}
use Rattle.pin_graph.specs.Graphs.{Graphed, IsGraph, fan_at}
use Rattle.pin_graph.specs.RowTables.{AreRows, AreRowsFine, row_numbered, back_numbered}
use Rattle.timing_defs.proofs.Members.{some_is, any_in}
use Rattle.timing_defs.proofs.SameNames.{same_self}
use Rattle.store_pins.proofs.PinLaws.{pin_at_number}
use Rattle.pin_graph.proofs.NodeLaws.{HasNode, under_number, has_node}
use Rattle.required_engine.specs.declared.arcs_out.ArcsOut.{ArcsOut}
use Rattle.required_engine.specs.declared.nodes.AskedNode.{AskedNode}
use Rattle.required_engine.specs.declared.unfit.Unfit.{Unfit}
use Rattle.required_engine.specs.declared.unfit.Unfit.TheVariants.{Range, Memory}
use Rattle.required_engine.specs.Behinds.{edge_of, over_tests, IsTabled, over_arcs}
use Rattle.required_engine.specs.Worked.{IsFineBack, IsAsked, IsBackRow, IsBackFault, AreReady, is_wide_back, IsUnfit, pin_told}
use Rattle.required_engine.proofs.ForwardLaws.{node_listed}
use Rattle.required_engine.proofs.TestLaws.{limits_told}
use Rattle.required_engine.proofs.BackLaws.{times_found, wide_found, inputs_fine, time_fine, no_origin}
use Rattle.required_engine.proofs.AfterLaws.{behind_fine, arcs_tabled, arcs_told}

or_first : (a b : Bool) → a ≡ true → (a || b) ≡ true
or_first true b h = refl
or_first false b h = absurd (false≢true h)

pub unfit_more : (a b : Bool) (u : Unfit) → a ≡ b → IsUnfit a u → IsUnfit b u
unfit_more a b Range e h = sym e ∙ h
unfit_more a b Memory e h = tt

pub unfit_left : (a b : Bool) (u : Unfit) → IsUnfit a u → IsUnfit (a || b) u
unfit_left a b Range h = or_first a b h
unfit_left a b Memory h = tt

pub unfit_right : (a b : Bool) (u : Unfit) → IsUnfit b u → IsUnfit (a || b) u
unfit_right true b Range h = refl
unfit_right false b Range h = h
unfit_right a b Memory h = tt

-- a node of a graph in one split
module _ (g : Graphed) (is : IsGraph g) (rows : List BackRow) (asked : AskedNode) (ready : AreReady g rows asked.number) where
  abbrev k : ℕ
  k = asked.number

  abbrev own : NodeRow
  own = asked.row.now

  abbrev endpoint : Bool
  endpoint = asked.endpoint

  module _ (num : IsNumbered g.stored) (linked : IsLinked g.stored.design) (are : IsAsked g.stored asked) where
    abbrev d : Design
    d = g.stored.design

    there : (n : Node) × ((node_at g.stored k ≡ Some n) × (is_endpoint d n.pin ≡ endpoint))
    there = by (pin_numbered g.stored (pin_under k)) refl
      where
        by : (o : Option Pin) → pin_numbered g.stored (pin_under k) ≡ o → (n : Node) × ((node_at g.stored k ≡ Some n) × (is_endpoint d n.pin ≡ endpoint))
        by None e = let none : None ≡ Some endpoint = sym (ap (option_map (is_endpoint d)) e) ∙ are.endpoint in absurd (cc)
        by (Some pin) e = (
          record { pin = pin; tran = tran_under k },
          (ap (option_map (λ (p : Pin). record { pin = p; tran = tran_under k })) e, some_is (sym (ap (option_map (is_endpoint d)) e) ∙ are.endpoint)),
        )

    abbrev node : Node
    node = there.0

    has : HasNode g.stored node k
    has = has_node g.stored num linked k node there.1.0

    back_is_told : back_numbered g.stored k ≡ back_row d node
    back_is_told = ap (λ o. option_map_or (back_row d) o empty_back) there.1.0

    onto_all : (out : ArcsOut) → out.arcs.now ≡ fan_at g.outs k → out.rows.now ≡ rows → AreDelays g.stored out.delays.now → All (IsTabled out) out.arcs.now
    onto_all out arcs tables delays = arcs_tabled g num linked is rows k are.below ready node there.1.0 out arcs tables delays

    module _ (fine : AreRowsFine d) (split : Split) (wide : is_wide_numbered g.stored (kind_of split) k ≡ false) where
      own_row : own ≡ row d node
      own_row = are.row ∙ ap (λ o. option_map_or (row d) o empty_row) there.1.0

      need : is_need_origin d (kind_of split) node ≡ false
      need = sym (ap (λ o. option_map_or (is_need_origin d (kind_of split)) o false) there.1.0) ∙ wide

      inputs : (edge : ℕ × Tran) → Contains (launch_edges d) edge → required_inputs d split edge (fine_required d split edge) node ≡ true
      inputs = inputs_fine g num linked is split node (k, has) fine need (behind_fine g num linked is rows k are.below ready node there.1.0)

      told : (f : ℕ × Tran → Option ℤ) → ((edge : ℕ × Tran) → f edge ≡ required_of d split (back_row d) node edge)
          → (times_on f (map edge_of (times_in split own)) ≡ back_times split (back_numbered g.stored k))
          × (are_wide_times f (map edge_of (times_in split own)) ≡ is_wide_back g.stored split k)
      told f each = (
        ap (λ (r : NodeRow). times_on f (map edge_of (times_in split r))) own_row
            ∙ times_found g num linked is split node (k, has) f each ∙ sym (ap (back_times split) back_is_told),
        ap (λ (r : NodeRow). are_wide_times f (map edge_of (times_in split r))) own_row
            ∙ wide_found g num linked is split node (k, has) f each inputs
            ∙ sym (ap (λ o. option_map_or (λ n. list_any (is_required_origin d split n) (launch_edges d)) o false) there.1.0),
      )

      over_tests_is : (tests : List NodeTest) → AreTests g.stored tests (tests_numbered g.stored (kind_of split) k) → endpoint ≡ true
          → (edge : ℕ × Tran) → over_tests d split tests edge ≡ required_of d split (back_row d) node edge
      over_tests_is tests are_tests end edge =
          limits_told d g.stored edge (other_split split) (kind_of split) None tests (tests_at d (kind_of split) node)
          (subst (λ (ts : List Test). AreTests g.stored tests ts) (ap (λ o. option_map_or (tests_at d (kind_of split)) o []) there.1.0) are_tests)
          ∙ sym (ap (λ b. if b then outermost (other_split split) (λ test. Some (limit_of d (kind_of split) edge test)) None (tests_at d (kind_of split) node)
          else outermost (other_split split) (λ to. less_some (time_on (back_times split (back_row d to)) edge) (delay d split node to)) None (arcs_out d node)) (there.1.1 ∙ end))

      over_arcs_is : (out : ArcsOut) → out.arcs.now ≡ fan_at g.outs k → out.rows.now ≡ rows → AreDelays g.stored out.delays.now → endpoint ≡ false
          → (edge : ℕ × Tran) → over_arcs out split edge ≡ required_of d split (back_row d) node edge
      over_arcs_is out arcs tables delays end edge =
          arcs_told g num linked is rows k are.below ready node there.1.0 out arcs tables delays split edge
          ∙ sym (ap (λ b. if b then outermost (other_split split) (λ test. Some (limit_of d (kind_of split) edge test)) None (tests_at d (kind_of split) node)
          else outermost (other_split split) (λ to. less_some (time_on (back_times split (back_row d to)) edge) (delay d split node to)) None (arcs_out d node)) (there.1.1 ∙ end))

  -- of the store
  module _ (s : Stored) (same : g.stored ≡ s) (num : IsNumbered s) (linked : IsLinked s.design) (are : IsAsked s asked) where
    own_num : IsNumbered g.stored
    own_num = subst (λ (x : Stored). IsNumbered x) (sym same) num

    own_linked : IsLinked g.stored.design
    own_linked = subst (λ (x : Stored). IsLinked x.design) (sym same) linked

    own_asked : IsAsked g.stored asked
    own_asked = subst (λ (x : Stored). IsAsked x asked) (sym same) are

    own_delays : (out : ArcsOut) → AreDelays s out.delays.now → AreDelays g.stored out.delays.now
    own_delays out = subst (λ (x : Stored). AreDelays x out.delays.now) (sym same)

    pub arcs_there : (out : ArcsOut) → out.arcs.now ≡ fan_at g.outs k → out.rows.now ≡ rows → AreDelays s out.delays.now → All (IsTabled out) out.arcs.now
    arcs_there out arcs tables delays = onto_all own_num own_linked own_asked out arcs tables (own_delays out delays)

    module _ (fine : AreRowsFine s.design) (split : Split) (wide : is_wide_numbered s (kind_of split) k ≡ false)
        (f : ℕ × Tran → Option ℤ) where
      abbrev Found : Stored → Type 0
      Found x =
          (times_on f (map edge_of (times_in split own)) ≡ back_times split (back_numbered x k))
          × (are_wide_times f (map edge_of (times_in split own)) ≡ is_wide_back x split k)

      own_fine : AreRowsFine g.stored.design
      own_fine = subst (λ (x : Stored). AreRowsFine x.design) (sym same) fine

      own_wide : is_wide_numbered g.stored (kind_of split) k ≡ false
      own_wide = subst (λ (x : Stored). is_wide_numbered x (kind_of split) k ≡ false) (sym same) wide

      pub tests_found : (tests : List NodeTest) → AreTests s tests (tests_numbered s (kind_of split) k) → endpoint ≡ true
          → ((edge : ℕ × Tran) → f edge ≡ over_tests s.design split tests edge) → Found s
      tests_found tests are_tests end each =
          subst Found same
          (told own_num own_linked own_asked own_fine split own_wide f
          (λ edge. subst (λ (x : Stored). f edge ≡ over_tests x.design split tests edge) (sym same) (each edge)
          ∙ over_tests_is own_num own_linked own_asked own_fine split own_wide tests
          (subst (λ (x : Stored). AreTests x tests (tests_numbered x (kind_of split) k)) (sym same) are_tests) end edge))

      pub arcs_found : (out : ArcsOut) → out.arcs.now ≡ fan_at g.outs k → out.rows.now ≡ rows → AreDelays s out.delays.now → endpoint ≡ false
          → ((edge : ℕ × Tran) → f edge ≡ over_arcs out split edge) → Found s
      arcs_found out arcs tables delays end each =
          subst Found same
          (told own_num own_linked own_asked own_fine split own_wide f
          (λ edge. each edge ∙ over_arcs_is own_num own_linked own_asked own_fine split own_wide out arcs tables (own_delays out delays) end edge))

-- a node whose required times are found is fine, and one that is refused is an origin
module _ (g : Graphed) (s : Stored) (same : g.stored ≡ s) (is : IsGraph g) (num : IsNumbered s) (linked : IsLinked s.design) (rows : List BackRow) (k : ℕ)
    (low : k < node_bound s) (ready : AreReady g rows k) (fine : AreRowsFine s.design)
    (setup : is_wide_numbered s Setup k ≡ false) (hold : is_wide_numbered s Hold k ≡ false) where
  kinds : (split : Split) → is_wide_numbered s (kind_of split) k ≡ false
  kinds Early = hold
  kinds Late = setup

  module _ (near : (is_wide_back s Early k || is_wide_back s Late k) ≡ false) where
    near_in : (split : Split) → is_wide_back s split k ≡ false
    near_in Early = (or_parts (is_wide_back s Early k) (is_wide_back s Late k) near).0
    near_in Late = (or_parts (is_wide_back s Early k) (is_wide_back s Late k) near).1

    -- over the graph's own store
    abbrev Fine : Stored → Type 0
    Fine x =
        IsNumbered x → IsLinked x.design → k < node_bound x → AreRowsFine x.design → ((split : Split) → is_wide_numbered x (kind_of split) k ≡ false)
        → ((split : Split) → is_wide_back x split k ≡ false) → (n : Node) → node_at x k ≡ Some n → IsFineBack x.design n

    its_fine : Fine g.stored
    its_fine num linked low fine wide near n told =
        let has = has_node g.stored num linked k n told in
        let need : (split : Split) → is_need_origin g.stored.design (kind_of split) n ≡ false =
        λ split. sym (ap (λ o. option_map_or (is_need_origin g.stored.design (kind_of split)) o false) told) ∙ wide split in
        let none : (split : Split) → list_any (is_required_origin g.stored.design split n) (launch_edges g.stored.design) ≡ false =
        λ split. sym (ap (λ o. option_map_or (λ m. list_any (is_required_origin g.stored.design split m) (launch_edges g.stored.design)) o false) told) ∙ near split in
        record {
          times = λ split edge c. time_fine g num linked is split n (k, has) fine (need split) (behind_fine g num linked is rows k low ready n told) (none split) edge c;
          origins = λ split. no_origin g num linked is split n (k, has) fine (need split) (behind_fine g num linked is rows k low ready n told) (none split);
        }

    node_is_fine : (n : Node) → node_at s k ≡ Some n → IsFineBack s.design n
    node_is_fine = subst Fine same its_fine num linked low fine kinds near_in

    pub row_found : (told : BackRow) → told ≡ back_numbered s k → IsBackRow s k told
    row_found told e = record { row = e; fine = node_is_fine }

-- an origin at a node
module _ (s : Stored) (num : IsNumbered s) (linked : IsLinked s.design) (k : ℕ) where
  abbrev told_design : Design
  told_design = s.design

  either_split_back : (n : Node) (split : Split) → is_back_origin told_design split n ≡ true → is_node_origin told_design n ≡ true
  either_split_back n Early h = first (is_forward_origin told_design Early n) (is_back_origin told_design Early n) (is_forward_origin told_design Late n || is_back_origin told_design Late n) h
    where
      first : (a b c : Bool) → b ≡ true → ((a || b) || c) ≡ true
      first true b c e = refl
      first false b c e = rw e refl
  either_split_back n Late h = last (is_forward_origin told_design Early n || is_back_origin told_design Early n) (is_forward_origin told_design Late n) (is_back_origin told_design Late n) h
    where
      last : (a b c : Bool) → c ≡ true → (a || (b || c)) ≡ true
      last true b c e = refl
      last false true c e = refl
      last false false c e = e

  module _ (n : Node) (told : node_at s k ≡ Some n) where
    has_it : HasNode s n k
    has_it = has_node s num linked k n told

    name_is : name_at s.pins (pin_under k) ≡ Some (name_of n.pin)
    name_is = ap (name_at s.pins) (ap pin_under has_it.number ∙ under_number has_it.pin n.tran) ∙ has_it.has.name

    placed_there : (split : Split) → is_back_origin told_design split n ≡ true → is_origin told_design (at_pin (name_of n.pin)) ≡ true
    placed_there split h =
        any_in (λ (m : Node). bytes_eq (name_of m.pin) (name_of n.pin) && is_node_origin told_design m) (nodes told_design) n (node_listed s n k has_it)
        (and_from (bytes_eq (name_of n.pin) (name_of n.pin)) (is_node_origin told_design n) (same_self (name_of n.pin)) (either_split_back n split h))

  -- a fault at a node where this is an origin
  refused : (wide : Bool) (f : Fault) → (wide ≡ true → (n : Node) × ((node_at s k ≡ Some n) × ((split : Split) × (is_back_origin told_design split n ≡ true))))
      → IsPlaced wide (name_numbered s k) f → IsBackFault s k f
  refused wide (fault.OutOfRange place) cause r =
      let c = cause r.1 in
      let name : name_numbered s k ≡ name_of c.0.pin = ap (λ o. option_map_or (λ (n : Node). name_of n.pin) o []) c.1.0 in (
        sym (ap (option_map at_pin) (name_is c.0 c.1.0) ∙ ap (λ x. Some (at_pin x)) (sym name) ∙ ap Some (sym r.0)),
        ap (is_origin told_design) (r.0 ∙ ap at_pin name) ∙ placed_there c.0 c.1.0 c.1.1.0 c.1.1.1,
      )
  refused wide fault.Memory cause r = r
  refused wide (fault.UnknownInstance x) cause r = absurd r
  refused wide (fault.UnknownNet x) cause r = absurd r
  refused wide (fault.UnknownCell x) cause r = absurd r
  refused wide (fault.UnknownPin x) cause r = absurd r
  refused wide (fault.NameTaken x) cause r = absurd r
  refused wide (fault.PinsDiffer x) cause r = absurd r
  refused wide (fault.AlreadyConnected x) cause r = absurd r
  refused wide (fault.NotConnected x) cause r = absurd r
  refused wide (fault.InUse x) cause r = absurd r
  refused wide (fault.ManyDrivers x) cause r = absurd r
  refused wide (fault.Loop x) cause r = absurd r
  refused wide (fault.ClockNotTree x) cause r = absurd r
  refused wide (fault.ConstraintDangling x) cause r = absurd r
  refused wide (fault.RcNotTree x) cause r = absurd r
  refused wide (fault.RcPinsDiffer x) cause r = absurd r
  refused wide (fault.TooLarge x) cause r = absurd r

  some_node : (f : Node → Bool) (o : Option Node) → option_map_or f o false ≡ true → (n : Node) × ((o ≡ Some n) × (f n ≡ true))
  some_node f None e = absurd (false≢true e)
  some_node f (Some n) e = (n, (refl, e))

  or_right : (a b : Bool) → b ≡ true → (a || b) ≡ true
  or_right true b h = refl
  or_right false b h = h

  -- a setup or hold time
  pub test_refused : (kind : Kind) (f : Fault) → IsTestFault s kind k f → IsBackFault s k f
  test_refused kind f r = refused (is_wide_numbered s kind k) f cause r
    where
      split_of : (kind : Kind) (n : Node) → is_need_origin told_design kind n ≡ true → (split : Split) × (is_back_origin told_design split n ≡ true)
      split_of Setup n e = (Late, or_first (is_need_origin told_design Setup n) (list_any (is_required_origin told_design Late n) (launch_edges told_design)) e)
      split_of Hold n e = (Early, or_first (is_need_origin told_design Hold n) (list_any (is_required_origin told_design Early n) (launch_edges told_design)) e)

      cause : is_wide_numbered s kind k ≡ true → (n : Node) × ((node_at s k ≡ Some n) × ((split : Split) × (is_back_origin told_design split n ≡ true)))
      cause e =
          let n = some_node (is_need_origin told_design kind) (node_at s k) e in
          (n.0, (n.1.0, split_of kind n.0 n.1.1))

  -- a required time
  pub time_refused : (f : Fault) → IsPlaced (is_wide_back s Early k || is_wide_back s Late k) (name_numbered s k) f → IsBackFault s k f
  time_refused f r = refused (is_wide_back s Early k || is_wide_back s Late k) f cause r
    where
      in_split : (split : Split) → is_wide_back s split k ≡ true → (n : Node) × ((node_at s k ≡ Some n) × ((split : Split) × (is_back_origin told_design split n ≡ true)))
      in_split split e =
          let n = some_node (λ m. list_any (is_required_origin told_design split m) (launch_edges told_design)) (node_at s k) e in
          (n.0, (n.1.0, (split, or_right (is_need_origin told_design (kind_of split) n.0) (list_any (is_required_origin told_design split n.0) (launch_edges told_design)) n.1.1)))

      cause : (is_wide_back s Early k || is_wide_back s Late k) ≡ true → (n : Node) × ((node_at s k ≡ Some n) × ((split : Split) × (is_back_origin told_design split n ≡ true)))
      cause e = elim (or_cases (is_wide_back s Early k) (is_wide_back s Late k) e) [ inl h ↦ in_split Early h | inr h ↦ in_split Late h ]

-- what is found, as a result has it
module _ (split : Split) (s : Stored) (k : ℕ) (f : ℕ × Tran → Option ℤ) (arrived own : List EdgeTime) (same : arrived ≡ own)
    (found : (times_on f (map edge_of own) ≡ back_times split (back_numbered s k)) × (are_wide_times f (map edge_of own) ≡ is_wide_back s split k))
    (r : Result (List EdgeTime) Unfit) where
  pub times_given : IfOk r (λ times. times ≡ times_on f (map edge_of arrived)) → IfOk r (λ times. times ≡ back_times split (back_numbered s k))
  times_given =
      ok_more r (λ times. times ≡ times_on f (map edge_of arrived)) (λ times. times ≡ back_times split (back_numbered s k))
      (λ times e. e ∙ ap (λ ts. times_on f (map edge_of ts)) same ∙ found.0)

  wide_same : are_wide_times f (map edge_of arrived) ≡ is_wide_back s split k
  wide_same = ap (λ ts. are_wide_times f (map edge_of ts)) same ∙ found.1

  pub near_given : OnOk r (are_wide_times f (map edge_of arrived) ≡ false) → OnOk r (is_wide_back s split k ≡ false)
  near_given = ok_more r (λ _. are_wide_times f (map edge_of arrived) ≡ false) (λ _. is_wide_back s split k ≡ false) (λ _ e. sym wide_same ∙ e)

  pub unfit_given : IfErr r (IsUnfit (are_wide_times f (map edge_of arrived))) → IfErr r (IsUnfit (is_wide_back s split k))
  unfit_given =
      err_more r (IsUnfit (are_wide_times f (map edge_of arrived))) (IsUnfit (is_wide_back s split k))
      (λ u h. unfit_more (are_wide_times f (map edge_of arrived)) (is_wide_back s split k) u wide_same h)

pub both_are : (row : BackRow) (early late : List EdgeTime) → early ≡ back_times Early row → late ≡ back_times Late row → record { early = early; late = late } ≡ row
both_are row early late e l = λ i. record { early = e i; late = l i }

pub none_wide : (a b : Bool) → a ≡ false → b ≡ false → (a || b) ≡ false
none_wide a b g h = rw (g, h) refl

pub row_here : (s : Stored) (rows : List NodeRow) → AreRows s rows → (k : ℕ) → k < node_bound s → (r : NodeRow) → slice_get rows k ≡ Some r → r ≡ row_numbered s k
row_here s rows are k low r e = some_is (sym e ∙ are.row k low)

-- the name of a node's pin
pub name_there : (s : Stored) → IsNumbered s → IsLinked s.design → (k pin : ℕ) → pin_told s k ≡ Some pin → name_at s.pins pin ≡ Some (name_numbered s k)
name_there s num linked k pin e =
    let c = cond_some (is_number s.pins (pin_under k)) (pin_under k) pin e in
    let p = pin_at_number s num linked (pin_under k) c.0 in
    ap (name_at s.pins) (sym c.1) ∙ p.1.name
    ∙ sym (ap (λ o. Some (option_map_or (λ (n : Node). name_of n.pin) (option_map (λ (q : Pin). record { pin = q; tran = tran_under k }) o) [])) p.1.pin)
