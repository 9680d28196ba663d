-- The launch edge and the arrival of a node by its number.

use Rattle.std.proofs.Common.{◌≡◌, ℕ, ◌<◌, ℤ, pos, Bool, true, false, not, List, [], ◌∷◌, Option, None, Some, refl, sym, ap, subst, ◌∙◌, inl, inr, arith}
use Rattle.std.specs.Prelude.{Contains, unsigned_abs, if◌then◌else◌, ◌&&◌, option_map, option_and_then}
use Rattle.std.specs.List.{filter_map, cons_option}
use Rattle.std.specs.Option.{option_map_or}
use Rattle.std.proofs.lemmas.Bool.{cases_Bool, leb-true}
use Rattle.sta_units.specs.declared.units.Fs.{Fs}
use Rattle.sta_units.specs.Numbers.{limit}
use Rattle.timing_defs.specs.declared.kinds.Split.{Split}
use Rattle.timing_defs.specs.declared.kinds.Split.TheVariants.{Early, Late}
use Rattle.timing_defs.specs.declared.kinds.Tran.{Tran}
use Rattle.timing_defs.specs.declared.kinds.Tran.TheVariants.{Rise}
use Rattle.timing_defs.specs.declared.rows.NodeRow.{NodeRow}
use Rattle.timing_defs.specs.declared.rows.Launch.{Launch}
use Rattle.timing_defs.specs.Netlist.{Node, name_of, same_tran}
use Rattle.timing_defs.specs.Wires.{first_some}
use Rattle.timing_rules.specs.Clocking.{is_network, is_clock_port}
use Rattle.timing_rules.specs.Cones.{has_register_arc}
use Rattle.timing_rules.specs.Rows.{arcs_in, is_input_port, is_clock_at, input_delay, start_at, launch_edges, edge_time, arrival, arrival_of, arrivals_of, outermost, delay_from, step, row, empty_row}
use Rattle.timing_defs.specs.RowTimes.{plus_some, times_in, time_on, edge_of}
use Rattle.timing_rules.specs.Range.{within_some}
use Rattle.timing_rules.specs.Paths.{named, node_named, start_of, owner_named}
use Rattle.netlist_store.specs.Numbering.{name_at, IsNumbered}
use Rattle.netlist_store.specs.Linked.{IsLinked}
use Rattle.pin_graph.specs.declared.arcs.GraphArc.{GraphArc}
use Rattle.pin_graph.specs.Nodes.{node_at, node_bound, pin_under}
use Rattle.pin_graph.specs.Graphs.{Graphed, IsGraph, IsArc, fan_at, network_at, place_at, kind_between}
use Rattle.pin_graph.specs.RowTables.{AreRowsFine, row_numbered}
use Rattle.timing_defs.proofs.Members.{some_is, none_in, first_in}
use Rattle.pin_graph.proofs.JoinLaws.{mapped_back}
use Rattle.pin_graph.proofs.NodeLaws.{HasNode, has_node, node_told, node_below, same_node_at, under_number}
use Rattle.pin_graph.proofs.GraphRows.{placed}
use Rattle.node_tests.proofs.ClimbLaws.{node_pin}
use Rattle.timing_defs.specs.declared.edge_times.LaunchEdge.{LaunchEdge}
use Rattle.path_search.specs.declared.launches.LaunchTime.{LaunchTime}
use Rattle.path_search.specs.declared.launches.LaunchNode.{LaunchNode}
use Rattle.path_search.specs.declared.names.PinNames.{PinNames}
use Rattle.path_search.specs.Runs.{IsTimed}
use Rattle.path_search.specs.Launches.{edge_of_start, edge_of_launch, IsLaunched}
use Rattle.path_search.specs.Trees.{walk_edge}
use Rattle.path_search.specs.Slacks.{first_time, start_told, IsLaunchTime, IsLaunchNode, ArePinNames}
use Rattle.path_search.proofs.Setting.{timed}
use Rattle.path_search.proofs.NodeNames.{named_back}
use Rattle.path_search.proofs.Starts.{port_entered, started}
use Rattle.path_search.proofs.Launching.{edge_walked, edge_alone}
use Rattle.path_search.proofs.Ranges.{arrivals_within}
use Rattle.path_search.proofs.TreeLaws.{edge_launched}
use Rattle.path_search.proofs.TestRanges.{launch_clock}

no_members : {X : Type 0} (xs : List X) → ((x : X) → Contains xs x → ⊥) → xs ≡ []
no_members [] none = refl
no_members (x ∷ xs) none = absurd (none x (first_in x xs))

none_first : {X Y : Type 0} (f : X → Option Y) (xs : List X) → ((x : X) → f x ≡ None) → first_some f xs ≡ None
none_first f [] each = refl
none_first f (x ∷ xs) each = ap (λ o. option_map_or Some o (first_some f xs)) (each x) ∙ none_first f xs each

or_none : (o : Option ℤ) → option_map_or Some o None ≡ o
or_none None = refl
or_none (Some x) = refl

-- the first time of a node is on the edge on which it starts
abbrev with_edge : ℕ × Tran → Option ℤ → Option ((ℕ × Tran) × ℤ)
with_edge edge time = option_map {U = (ℕ × Tran) × ℤ} (λ at. (edge, at)) time

first_is : (a : ℕ × Tran → Option ℤ) (edges : List (ℕ × Tran))
    → first_time (filter_map (λ edge. option_map (edge_time edge) (a edge)) edges) ≡ option_map edge_of_start (first_some (λ edge. with_edge edge (a edge)) edges)
first_is a [] = refl
first_is a (edge ∷ edges) = by (a edge) refl (first_is a edges)
  where
    by : (o : Option ℤ) → a edge ≡ o
        → first_time (filter_map (λ e. option_map (edge_time e) (a e)) edges) ≡ option_map edge_of_start (first_some (λ e. with_edge e (a e)) edges)
        → first_time (filter_map (λ e. option_map (edge_time e) (a e)) (edge ∷ edges)) ≡ option_map edge_of_start (first_some (λ e. with_edge e (a e)) (edge ∷ edges))
    by None e rest =
        ap (λ o. first_time (cons_option (option_map (edge_time edge) o) (filter_map (λ e. option_map (edge_time e) (a e)) edges))) e
        ∙ rest
        ∙ sym (ap (λ o. option_map edge_of_start (option_map_or Some (with_edge edge o) (first_some (λ e. with_edge e (a e)) edges))) e)
    by (Some t) e rest =
        ap (λ o. first_time (cons_option (option_map (edge_time edge) o) (filter_map (λ e. option_map (edge_time e) (a e)) edges))) e
        ∙ sym (ap (λ o. option_map edge_of_start (option_map_or Some (with_edge edge o) (first_some (λ e. with_edge e (a e)) edges))) e)

first_agree : (f g : ℕ × Tran → Option ((ℕ × Tran) × ℤ)) (xs : List (ℕ × Tran)) → ((x : ℕ × Tran) → f x ≡ g x) → first_some f xs ≡ first_some g xs
first_agree f g [] same = refl
first_agree f g (x ∷ xs) same = λ k. option_map_or Some (same x k) (first_agree f g xs same k)

module _ (g : Graphed) (num : IsNumbered g.stored) (linked : IsLinked g.stored.design) (is : IsGraph g) (split : Split) (number : ℕ) (node : Node)
    (its : node_at g.stored number ≡ Some node) where
  its_time : IsTimed g.stored.design
  its_time = timed g num linked is

  has : HasNode g.stored node number
  has = has_node g.stored num linked number node its

  low : number < node_bound g.stored
  low = node_below g.stored node number has

  pub network_is : network_at g number ≡ is_network g.stored.design node.pin
  network_is =
      is.network.each (pin_under number) (let l = low in omega (arith, l))
      ∙ ap (λ o. option_map_or (is_network g.stored.design) o false) (node_pin g.stored number node its).0

  named_its : node_named g.stored.design (named node) ≡ Some node
  named_its = named_back g.stored.design its_time node has.has.within

  start_is : start_of g.stored.design split (named node) ≡ first_some (λ edge. with_edge edge (start_at g.stored.design split node edge)) (launch_edges g.stored.design)
  start_is = ap (option_and_then (λ (n : Node). first_some (λ edge. with_edge edge (start_at g.stored.design split n edge)) (launch_edges g.stored.design))) named_its

  -- nothing starts where an arc leads to
  pub started_none : (from : Node) → Contains (arcs_in g.stored.design node) from → (edge : ℕ × Tran) → start_at g.stored.design split node edge ≡ None
  started_none from c edge = elim (cases_Bool (is_input_port node.pin)) [
    | inl e ↦ absurd (none_in from (subst (λ (xs : List Node). Contains xs from) (port_entered g.stored.design node e) c))
    | inr e ↦
        ap (λ (b : Bool). if not b then None else (if is_clock_port g.stored.design node.pin
        then (if is_clock_at g.stored.design.constraints.clocks edge.0 node.pin.own && same_tran edge.1 node.tran then Some (pos 0) else None)
        else (if same_tran edge.1 Rise then input_delay g.stored.design.constraints.inputs split node edge.0 else None))) e
  ]

  alone_in : fan_at g.ins number ≡ [] → arcs_in g.stored.design node ≡ []
  alone_in none = no_members (arcs_in g.stored.design node) (λ x c.
      (let s = (placed g num linked is).closed node (number, has) x c in
      let arc : GraphArc = record { from = s.0; to = number; kind = kind_between g.stored.design x node; edge = has_register_arc g.stored.design x node } in
      let arc_is : IsArc g.stored arc = record {
        from = x;
        from_number = node_told g.stored x s.0 s.1;
        to = node;
        to_number = its;
        within = c;
        kind = refl;
        edge = refl;
      } in
      none_in arc (subst (λ (xs : List GraphArc). Contains xs arc) none ((is.ins number low).all arc arc_is refl))))

  pub times_are : times_in split (row g.stored.design node) ≡ filter_map (λ edge. option_map (edge_time edge) (arrival_of g.stored.design split (row g.stored.design) node edge)) (launch_edges g.stored.design)
  times_are = ap (times_in split) (its_time.stepped node has.has.within) ∙ by split
    where
      by : (t : Split) → times_in t (step g.stored.design (row g.stored.design) node) ≡ arrivals_of g.stored.design t (row g.stored.design) node
      by Early = refl
      by Late = refl

  start_by : (arcs : List GraphArc) → fan_at g.ins number ≡ arcs
      → start_told arcs (times_in split (row g.stored.design node)) ≡ option_map edge_of_start (start_of g.stored.design split (named node))
  start_by [] none =
      let starts : (edge : ℕ × Tran) → arrival_of g.stored.design split (row g.stored.design) node edge ≡ start_at g.stored.design split node edge =
      λ edge. ap (λ xs. option_map_or Some (start_at g.stored.design split node edge)
      (outermost split (λ from. plus_some (time_on (times_in split (row g.stored.design from)) edge) (delay_from g.stored.design split from node (row g.stored.design from))) None xs)) (alone_in none)
      ∙ or_none (start_at g.stored.design split node edge) in
      ap first_time times_are ∙ first_is (arrival_of g.stored.design split (row g.stored.design) node) (launch_edges g.stored.design)
      ∙ ap (option_map edge_of_start)
      (first_agree (λ edge. with_edge edge (arrival_of g.stored.design split (row g.stored.design) node edge)) (λ edge. with_edge edge (start_at g.stored.design split node edge))
      (launch_edges g.stored.design) (λ edge. ap (with_edge edge) (starts edge))
      ∙ sym start_is)
  start_by (arc ∷ arcs) some =
      let a = (is.ins number low).sound arc (subst (λ (xs : List GraphArc). Contains xs arc) (sym some) (first_in arc arcs)) in
      let to : a.0.to ≡ node = same_node_at g.stored a.0.to node number (ap (node_at g.stored) (sym a.1) ∙ a.0.to_number) its in
      let c : Contains (arcs_in g.stored.design node) a.0.from = subst (λ (n : Node). Contains (arcs_in g.stored.design n) a.0.from) to a.0.within in
      sym (ap (option_map edge_of_start) (start_is ∙ none_first (λ edge. with_edge edge (start_at g.stored.design split node edge)) (launch_edges g.stored.design)
      (λ edge. ap (with_edge edge) (started_none a.0.from c edge))))

  pub edge_on_network : network_at g number ≡ true → (edge : Option LaunchEdge) → option_map edge_of edge ≡ option_and_then (walk_edge g.stored.design) (node_at g.stored number)
      → option_map edge_of edge ≡ edge_of_launch g.stored.design split (named node) node
  edge_on_network net edge e =
      e ∙ ap (option_and_then (walk_edge g.stored.design)) its ∙ sym (edge_walked g.stored.design split (named node) node (sym network_is ∙ net))

  pub edge_off_network : network_at g number ≡ false → (from : NodeRow) → from ≡ row_numbered g.stored number → (edge : Option LaunchEdge)
      → option_map edge_of edge ≡ start_told (fan_at g.ins number) (times_in split from) → option_map edge_of edge ≡ edge_of_launch g.stored.design split (named node) node
  edge_off_network out from r edge e =
      e ∙ ap (λ x. start_told (fan_at g.ins number) (times_in split x)) (r ∙ ap (λ o. option_map_or (row g.stored.design) o empty_row) its)
      ∙ start_by (fan_at g.ins number) refl ∙ sym (edge_alone g.stored.design split (named node) node (sym network_is ∙ out))

  -- what a launch edge tells
  module _ (edge : Option LaunchEdge) (told : option_map edge_of edge ≡ edge_of_launch g.stored.design split (named node) node) where
    same_launch : (e : ℕ × Tran) (time : ℤ) (l : IsLaunched g.stored.design split e (named node) time)
        → (option_map edge_of edge ≡ Some e) × (arrival g.stored.design split node e ≡ Some time)
    same_launch e time l =
        let n : l.node ≡ node = some_is (sym l.its ∙ named_its) in
        (told ∙ ap (edge_of_launch g.stored.design split (named node)) (sym n) ∙ l.edge_is, ap (λ (m : Node). arrival g.stored.design split m e) (sym n) ∙ l.arrives)

    pub no_edge : edge ≡ None → IsLaunchTime g.stored.design split node None
    no_edge none = λ e time l. (let s = (same_launch e time l).0 in let f : None ≡ Some e = sym (ap (option_map edge_of) none) ∙ s in cc)

    module _ (on : LaunchEdge) (some : edge ≡ Some on) (from : NodeRow) (r : from ≡ row_numbered g.stored number) where
      time_is : time_on (times_in split from) (edge_of on) ≡ arrival g.stored.design split node (edge_of on)
      time_is = ap (λ x. time_on (times_in split x) (edge_of on)) (r ∙ ap (λ o. option_map_or (row g.stored.design) o empty_row) its)

      pub no_time : None ≡ time_on (times_in split from) (edge_of on) → IsLaunchTime g.stored.design split node None
      no_time none = λ e time l.
          (let s = same_launch e time l in
          let same : edge_of on ≡ e = some_is (sym (ap (option_map edge_of) some) ∙ s.0) in
          let f : None ≡ Some time = none ∙ time_is ∙ ap (arrival g.stored.design split node) same ∙ s.1 in
          cc)

      pub some_time : (time : ℤ) → Some time ≡ time_on (times_in split from) (edge_of on) → IsLaunched g.stored.design split (edge_of on) (named node) time
      some_time time e = record {
        node = node;
        its = named_its;
        edge_is = sym told ∙ ap (option_map edge_of) some;
        arrives = sym time_is ∙ sym e;
      }

  -- a launch edge is one of the clocks', and arrivals on it are within their limits
  pub launched_in : (edge : ℕ × Tran) → edge_of_launch g.stored.design split (named node) node ≡ Some edge → Contains (launch_edges g.stored.design) edge
  launched_in edge e = elim (cases_Bool (is_network g.stored.design node.pin)) [
    | inl net ↦ edge_launched g.stored.design node edge (sym (edge_walked g.stored.design split (named node) node net) ∙ e)
    | inr out ↦
        let m = mapped_back edge_of_start (start_of g.stored.design split (named node)) edge (sym (edge_alone g.stored.design split (named node) node out) ∙ e) in
        (started g.stored.design split (named node) edge m.0.1 (m.1 ∙ ap (λ (x : ℕ × Tran). Some (x, m.0.1)) m.2)).launched
  ]

  pub launch_told : AreRowsFine g.stored.design → (at : LaunchTime) → IsLaunchTime g.stored.design split node (Some at) → (names : PinNames) → ArePinNames g.stored (pin_under number) names
      → (place : Option ℕ) → place ≡ place_at g number → (told : LaunchNode)
      → told.launch ≡ (λ (x : Launch). x) (record { pin = names.pin; cell = names.cell; clock = at.edge.clock }) → told.tran ≡ at.edge.tran → told.time ≡ at.time → told.place ≡ place
      → IsLaunchNode g split number told
  launch_told fine at launched names are place p told launch tran time put =
      let edge : (told.launch.clock, told.tran) ≡ edge_of at.edge = λ k. ((launch k).clock, tran k) in
      let name : names.pin ≡ name_of node.pin = some_is (sym are.name ∙ (node_name)) in
      let l : IsLaunched g.stored.design split (told.launch.clock, told.tran) (named node) told.time.0 =
      subst (λ (e : ℕ × Tran). IsLaunched g.stored.design split e (named node) told.time.0) (sym edge)
      (subst (λ (t : ℤ). IsLaunched g.stored.design split (edge_of at.edge) (named node) t) (sym (ap (λ (t : Fs). t.0) time)) launched) in
      let n : l.node ≡ node = some_is (sym l.its ∙ named_its) in
      let is_edge : edge_of_launch g.stored.design split (named node) node ≡ Some (told.launch.clock, told.tran) =
      ap (edge_of_launch g.stored.design split (named node)) (sym n) ∙ l.edge_is in
      let within = arrivals_within g num linked is fine split node has.has.within (told.launch.clock, told.tran) (launched_in (told.launch.clock, told.tran) is_edge) in
      let arrives : arrival g.stored.design split node (told.launch.clock, told.tran) ≡ Some told.time.0 =
      ap (λ (m : Node). arrival g.stored.design split m (told.launch.clock, told.tran)) (sym n) ∙ l.arrives in
      record {
        node = node;
        its = its;
        launched = l;
        launch =
            launch
            ∙ (λ k. record { pin = name k; cell = (are.cell ∙ ap (owner_named g.stored.design) name) k; clock = (sym launch k).clock });
        place = put ∙ p;
        clock = launch_clock g.stored.design (told.launch.clock, told.tran) (launched_in (told.launch.clock, told.tran) is_edge);
        time = leb-true (unsigned_abs told.time.0) limit (sym (ap within_some arrives) ∙ within);
      }
    where
      node_name : name_at g.stored.pins (pin_under number) ≡ Some (name_of node.pin)
      node_name = ap (name_at g.stored.pins) (under) ∙ has.has.name
        where
          under : pin_under number ≡ has.pin
          under = ap pin_under has.number ∙ under_number has.pin node.tran
