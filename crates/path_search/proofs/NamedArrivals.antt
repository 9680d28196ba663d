-- A node arrives beyond its start, and beyond each node before it with the delay between them.

use Rattle.std.proofs.Common.{◌≡◌, ℕ, ℤ, ◌+ℤ◌, Option, Some, refl, sym, ap, subst, ◌∙◌, arith}
use Rattle.std.specs.Prelude.{Contains, option_map, option_and_then}
use Rattle.std.specs.List.{filter_map}
use Rattle.std.proofs.lemmas.Int.{ints}
use Rattle.timing_defs.specs.declared.kinds.Split.{Split}
use Rattle.timing_defs.specs.declared.kinds.Split.TheVariants.{Early, Late}
use Rattle.timing_defs.specs.declared.kinds.Tran.{Tran}
use Rattle.timing_defs.specs.declared.design.Design.{Design}
use Rattle.timing_defs.specs.Netlist.{Node, pins}
use Rattle.timing_defs.specs.Wires.{first_some}
use Rattle.timing_rules.specs.Rows.{start_at, launch_edges, edge_time, arrival, arrival_of, row, step}
use Rattle.timing_defs.specs.RowTimes.{times_in, time_on}
use Rattle.timing_rules.specs.Paths.{Named, node_named, delay_between, start_of}
use Rattle.netlist_store.specs.Linked.{IsLinked}
use Rattle.netlist_store.specs.Numbering.{IsNumbered}
use Rattle.store_pins.proofs.PinLaws.{pin_told}
use Rattle.pin_graph.specs.Nodes.{node_at, node_number}
use Rattle.pin_graph.specs.Graphs.{Graphed, IsGraph}
use Rattle.pin_graph.proofs.JoinLaws.{then_back, mapped_back}
use Rattle.pin_graph.proofs.NodeLaws.{node_told}
use Rattle.bounded_changes.specs.Carried.{IsBeyond, arrival_named, AreArrivals}
use Rattle.path_search.specs.Runs.{IsTimed}
use Rattle.path_search.proofs.LaunchLaws.{started_none}
use Rattle.path_search.proofs.NodeNames.{joined_back, name_told}
use Rattle.path_search.proofs.Prefixes.{first_back}
use Rattle.path_search.proofs.PrefixSums.{arrival_starts}
use Rattle.path_search.proofs.PrefixTimes.{IsOuter, edge_known, arrival_after}

beyond_self : (split : Split) (x : ℤ) → IsBeyond split (Some x) x
beyond_self Early x = omega (arith, ints)
beyond_self Late x = omega (arith, ints)

beyond_of : (split : Split) (x v : ℤ) → IsOuter split x v → IsBeyond split (Some v) x
beyond_of Early x v h = h
beyond_of Late x v h = h

module _ (g : Graphed) (num : IsNumbered g.stored) (linked : IsLinked g.stored.design) (is : IsGraph g) (t : IsTimed g.stored.design) (split : Split) where
  abbrev d : Design
  d = g.stored.design

  named_at : (edge : ℕ × Tran) (n : Named) (a : Node) (o : Option ℤ) → node_named d n ≡ Some a → arrival d split a edge ≡ o → arrival_named d split edge n ≡ o
  named_at edge n a o e h = ap (option_and_then (λ node. arrival d split node edge)) e ∙ h

  -- an arrival is on a launch edge
  launched_on : (edge : ℕ × Tran) (a : Node) → Contains (pins d) a.pin → (x : ℤ) → arrival d split a edge ≡ Some x → Contains (launch_edges d) edge
  launched_on edge a there x h =
      edge_known (arrival_of d split (row d) a) (launch_edges d) edge x (sym (ap (λ r. time_on (times_in split r) edge) (t.stepped a there) ∙ by split) ∙ h)
    where
      by : (s : Split) → time_on (times_in s (step d (row d) a)) edge ≡ time_on (filter_map (λ e. option_map (edge_time e) (arrival_of d s (row d) a e)) (launch_edges d)) edge
      by Early = refl
      by Late = refl

  starts_beyond : (n : Named) (edge : ℕ × Tran) (time : ℤ) → start_of d split n ≡ Some (edge, time) → IsBeyond split (arrival_named d split edge n) time
  starts_beyond n edge time h =
      let a = then_back (λ node. first_some (λ e. option_map (λ at. (e, at)) (start_at d split node e)) (launch_edges d)) (node_named d n) (edge, time) h in
      let f = first_back (λ e. option_map (λ at. (e, at)) (start_at d split a.0 e)) (launch_edges d) (edge, time) a.2 in
      let m = mapped_back (λ (at : ℤ). (f.0, at)) (start_at d split a.0 f.0) (edge, time) f.2 in
      let on : f.0 ≡ edge = ap (λ (p : (ℕ × Tran) × ℤ). p.0) m.2 in
      let at : m.0 ≡ time = ap (λ (p : (ℕ × Tran) × ℤ). p.1) m.2 in
      let there = (name_told d t n a.0 a.1).0 in
      let starts : start_at d split a.0 edge ≡ Some time = ap (start_at d split a.0) (sym on) ∙ m.1 ∙ ap Some at in
      let known : Contains (launch_edges d) edge = subst (λ (e : ℕ × Tran). Contains (launch_edges d) e) on f.1 in
      subst (λ (o : Option ℤ). IsBeyond split o time) (sym (named_at edge n a.0 (Some time) a.1 (arrival_starts d t split edge known a.0 there time starts))) (beyond_self split time)

  number_of_node : (a : Node) → Contains (pins d) a.pin → (k : ℕ) × (node_at g.stored k ≡ Some a)
  number_of_node a c =
      let p = pin_told g.stored num linked a.pin c in
      (node_number p.0 a.tran, node_told g.stored a (node_number p.0 a.tran) (record { pin = p.0; has = p.1; number = refl }))

  steps_beyond : (edge : ℕ × Tran) (m n : Named) (x v : ℤ) → arrival_named d split edge m ≡ Some x → delay_between d split m n ≡ Some v
      → IsBeyond split (arrival_named d split edge n) (x +ℤ v)
  steps_beyond edge m n x v h e =
      let j = joined_back d t split m n v e in
      let at : arrival d split j.from edge ≡ Some x = sym (named_at edge m j.from (arrival d split j.from edge) j.from_named refl) ∙ h in
      let from_there = (name_told d t m j.from j.from_named).0 in
      let there = (name_told d t n j.to j.to_named).0 in
      let k = number_of_node j.to there in
      let r = arrival_after d t split edge (launched_on edge j.from from_there x at) j.from j.to there j.arc
      (started_none g num linked is split k.0 j.to k.1 j.from j.arc edge) x v at j.takes in
      subst (λ (o : Option ℤ). IsBeyond split o (x +ℤ v)) (sym (named_at edge n j.to (Some r.value) j.to_named r.is)) (beyond_of split (x +ℤ v) r.value r.outer)

  pub named_arrivals : AreArrivals d split
  named_arrivals = record { starts = starts_beyond; steps = steps_beyond }
