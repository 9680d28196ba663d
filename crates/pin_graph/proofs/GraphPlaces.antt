-- The places of a graph's nodes are those of the design's clock network.

use Rattle.std.proofs.Common.{◌≡◌, ℕ, ◌<◌, ◌≤◌, ◌==◌, Bool, true, false, cond, List, [], ◌∷◌, map, filter, length, get_or, Option, None, Some, refl, sym, ap, subst, ◌∙◌, inl, inr, arith}
use Rattle.std.specs.Prelude.{nat_eq, ◌&&◌, ◌||◌, if◌then◌else◌, is_some, option_map, Contains, count_by}
use Rattle.std.specs.List.{list_any, filter_map, flat_map, range_with_len}
use Rattle.std.specs.Option.{option_map_or}
use Rattle.std.proofs.lemmas.Bool.{cases_Bool, cases_lt, false≢true, and_parts, and_from, or_cases, or_left, or_right, eqb-true, eq-eqb}
use Rattle.std.proofs.lemmas.Option.{cond_some}
use Rattle.std.proofs.lemmas.List.{get_or_past}
use Rattle.std.proofs.lemmas.List.Elements.{All-contains}
use Rattle.std.proofs.lemmas.List.Sums.{sum_by-le-sum_by}
use Rattle.timing_defs.specs.declared.kinds.Tran.{Tran}
use Rattle.timing_defs.specs.declared.kinds.Tran.TheVariants.{Rise, Fall}
use Rattle.timing_defs.specs.Netlist.{Pin, Node}
use Rattle.timing_rules.specs.Clocking.{is_network, is_clock_port}
use Rattle.timing_defs.specs.NetChecks.{net_fault}
use Rattle.netlist_store.specs.Linked.{IsLinked}
use Rattle.netlist_store.specs.Numbering.{Stored, pin_numbered, IsNumbered}
use Rattle.levelizer.specs.declared.links.Link.{Link}
use Rattle.levelizer.specs.Levels.{AreLevels}
use Rattle.levelizer.specs.Reaching.{has_mark, is_led_to}
use Rattle.pin_graph.specs.declared.arcs.GraphArc.{GraphArc}
use Rattle.pin_graph.specs.Networks.{clock_ports, IsNetwork}
use Rattle.pin_graph.specs.Nodes.{node_number, pin_under, tran_under, node_at, node_bound}
use Rattle.pin_graph.specs.NodeArcs.{marked, node_link, AreNodes}
use Rattle.pin_graph.specs.Kept.{AreNumberPlaces}
use Rattle.pin_graph.specs.Placing.{network_link, port_nodes, ArePlaced}
use Rattle.pin_graph.specs.Graphs.{Graphed, fan_at, of_node, ArePlaces}
use Rattle.timing_defs.proofs.Members.{none_in, in_cases, in_map, in_filter_map, in_filter_map_back, in_flat_map, in_flat_map_back, in_filter, passes_in, kept_in, any_in, any_back}
use Rattle.pin_graph.proofs.NetworkLaws.{ports_begin}
use Rattle.pin_graph.proofs.WalkLaws.{both_same, levels_rise}
use Rattle.pin_graph.proofs.NodeLaws.{has_node, under_number, number_again}
use Rattle.pin_graph.proofs.PlaceLaws.{marks_placed, places_apart, place_low, places_rise}

-- the places of arcs' nodes, found in the order of levels, by numbers alone
module _ (n : ℕ) (network : List Bool) (ports : List ℕ) (arcs : List GraphArc) (within : AreNodes n arcs)
    (fan : ℕ → List GraphArc) (levels : List ℕ) (places : List (Option ℕ)) (fan_is : (t : ℕ) → t < n → fan t ≡ filter (λ arc. arc.to == t) arcs)
    (are : AreLevels n (map node_link arcs) levels)
    (placed : ArePlaced n network ports arcs levels places) where
  number_in_ports : (q : ℕ) (t : Tran) → marked network q ≡ true → Contains (port_nodes network q) (node_number q t)
  number_in_ports q t e =
      subst (λ (xs : List ℕ). Contains xs (node_number q t)) (sym (ap (λ b. if b then node_number q Rise ∷ node_number q Fall ∷ [] else []) e)) (by t)
    where
      by : (u : Tran) → Contains (node_number q Rise ∷ node_number q Fall ∷ []) (node_number q u)
      by Rise = (0, omega arith, refl)
      by Fall = (1, omega arith, refl)

  ports_back : (q k : ℕ) → Contains (port_nodes network q) k → (marked network q ≡ true) × (t : Tran) × (node_number q t ≡ k)
  ports_back q k c = by (marked network q) refl c
    where
      by : (b : Bool) → marked network q ≡ b → Contains (if b then node_number q Rise ∷ node_number q Fall ∷ [] else []) k → (marked network q ≡ true) × (t : Tran) × (node_number q t ≡ k)
      by true e d = elim (in_cases (node_number q Rise) (node_number q Fall ∷ []) k d) [
        | inl same ↦ (e, Rise, same)
        | inr r ↦ elim (in_cases (node_number q Fall) [] k r) [ inl same ↦ (e, Fall, same) | inr none ↦ absurd (none_in k none) ]
      ]
      by false e d = absurd (none_in k d)

  first_back : (node : ℕ) → list_any (nat_eq node) (flat_map (port_nodes network) ports) ≡ true
      → (marked network (pin_under node) ≡ true) × (list_any (nat_eq (pin_under node)) ports ≡ true)
  first_back node e =
      let r = any_back (nat_eq node) (flat_map (port_nodes network) ports) e in
      let k = in_flat_map_back (port_nodes network) ports r.item r.within in
      let p = ports_back k.item r.item k.inside in
      let is : node ≡ node_number k.item p.1 = eqb-true node r.item r.passes ∙ sym p.2 in
      let under : pin_under node ≡ k.item = ap pin_under is ∙ under_number k.item p.1 in
      (ap (marked network) under ∙ p.0, any_in (nat_eq (pin_under node)) ports k.item k.within (eq-eqb (pin_under node) k.item under))

  first_in_ports : (node : ℕ) → marked network (pin_under node) ≡ true → list_any (nat_eq (pin_under node)) ports ≡ true
      → list_any (nat_eq node) (flat_map (port_nodes network) ports) ≡ true
  first_in_ports node e f =
      let r = any_back (nat_eq (pin_under node)) ports f in
      let port : Contains ports (pin_under node) = subst (λ (q : ℕ). Contains ports q) (sym (eqb-true (pin_under node) r.item r.passes)) r.within in
      any_in (nat_eq node) (flat_map (port_nodes network) ports) (node_number (pin_under node) (tran_under node))
      (in_flat_map (port_nodes network) ports (pin_under node) (node_number (pin_under node) (tran_under node)) port (number_in_ports (pin_under node) (tran_under node) e))
      (eq-eqb node (node_number (pin_under node) (tran_under node)) (sym (number_again node)))

  mark_is : (node : ℕ) → node < n → is_some (get_or places node None) ≡ has_mark placed.marks node
  mark_is node low = marks_placed n placed.marks levels placed.nodes placed.ordered places placed.placed node low

  arc_low : (a : GraphArc) → Contains arcs a → (a.from < n) × (a.to < n)
  arc_low a c = All-contains (λ (arc : GraphArc). (arc.from < n) × (arc.to < n)) arcs a within c

  led_back : (node : ℕ) → node < n → is_led_to (filter_map (network_link network) arcs) placed.marks node ≡ true
      → (marked network (pin_under node) ≡ true) × (list_any (λ (arc : GraphArc). is_some (get_or places arc.from None)) (fan node) ≡ true)
  led_back node low e =
      let r = any_back (λ (l : Link). nat_eq l.to node && has_mark placed.marks l.from) (filter_map (network_link network) arcs) e in
      let p = and_parts (nat_eq r.item.to node) (has_mark placed.marks r.item.from) r.passes in
      let m = in_filter_map_back (network_link network) arcs r.item r.within in
      let h = cond_some (marked network (pin_under m.item.to)) (node_link m.item) r.item m.same in
      let to : m.item.to ≡ node = ap (λ (l : Link). l.to) h.1 ∙ eqb-true r.item.to node p.0 in
      let from : m.item.from ≡ r.item.from = ap (λ (l : Link). l.from) h.1 in (
        ap (λ k. marked network (pin_under k)) (sym to) ∙ h.0,
        any_in (λ (arc : GraphArc). is_some (get_or places arc.from None)) (fan node) m.item
            (subst (λ (xs : List GraphArc). Contains xs m.item) (sym (fan_is node low)) (in_filter (λ (arc : GraphArc). arc.to == node) arcs m.item m.within (eq-eqb m.item.to node to)))
            (mark_is m.item.from (arc_low m.item m.within).0 ∙ ap (has_mark placed.marks) from ∙ p.1),
      )

  led_in : (node : ℕ) → node < n → marked network (pin_under node) ≡ true
      → list_any (λ (arc : GraphArc). is_some (get_or places arc.from None)) (fan node) ≡ true → is_led_to (filter_map (network_link network) arcs) placed.marks node ≡ true
  led_in node low e f =
      let r = any_back (λ (arc : GraphArc). is_some (get_or places arc.from None)) (fan node) f in
      let c = subst (λ (xs : List GraphArc). Contains xs r.item) (fan_is node low) r.within in
      let a = kept_in (λ (arc : GraphArc). arc.to == node) arcs r.item c in
      let to : r.item.to ≡ node = eqb-true r.item.to node (passes_in (λ (arc : GraphArc). arc.to == node) arcs r.item c) in
      any_in (λ (l : Link). nat_eq l.to node && has_mark placed.marks l.from) (filter_map (network_link network) arcs) (node_link r.item)
      (in_filter_map (network_link network) arcs r.item (node_link r.item) a
      (ap (λ b. if b then Some (node_link r.item) else None) (ap (λ k. marked network (pin_under k)) to ∙ e)))
      (and_from (nat_eq r.item.to node) (has_mark placed.marks r.item.from) (eq-eqb r.item.to node to) (sym (mark_is r.item.from (arc_low r.item a).0) ∙ r.passes))

  abbrev led : ℕ → Bool
  led node = list_any (λ (arc : GraphArc). is_some (get_or places arc.from None)) (fan node)

  abbrev is_port : ℕ → Bool
  is_port node = list_any (nat_eq (pin_under node)) ports

  there : (node : ℕ) → node < n → is_some (get_or places node None) ≡ (marked network (pin_under node) && (is_port node || led node))
  there node low =
      both_same (is_some (get_or places node None)) (marked network (pin_under node) && (is_port node || led node))
      (λ e. elim (or_cases (list_any (nat_eq node) (flat_map (port_nodes network) ports)) (is_led_to (filter_map (network_link network) arcs) placed.marks node)
      (sym (placed.clocked.each node low) ∙ sym (mark_is node low) ∙ e)) [
        | inl f ↦
            let b = first_back node f in
            and_from (marked network (pin_under node)) (is_port node || led node) b.0 (or_left (is_port node) (led node) b.1)
        | inr f ↦
            let b = led_back node low f in
            and_from (marked network (pin_under node)) (is_port node || led node) b.0 (or_right (is_port node) (led node) b.1)
      ])
      (λ e.
      let p = and_parts (marked network (pin_under node)) (is_port node || led node) e in
      mark_is node low ∙ placed.clocked.each node low
      ∙ elim (or_cases (is_port node) (led node) p.1) [
        | inl f ↦ or_left (list_any (nat_eq node) (flat_map (port_nodes network) ports)) (is_led_to (filter_map (network_link network) arcs) placed.marks node) (first_in_ports node p.0 f)
        | inr f ↦ or_right (list_any (nat_eq node) (flat_map (port_nodes network) ports)) (is_led_to (filter_map (network_link network) arcs) placed.marks node) (led_in node low p.0 f)
      ])

  -- placed nodes are of the network
  marks_network : (node : ℕ) → has_mark placed.marks node ≡ true → marked network (pin_under node) ≡ true
  marks_network node e = elim (cases_lt node n) [
    | inl low ↦ (and_parts (marked network (pin_under node)) (is_port node || led node) (sym (there node low) ∙ mark_is node low ∙ e)).0
    | inr high ↦ absurd (false≢true (sym (get_or_past placed.marks node false (omega (arith, placed.clocked.count))) ∙ e))
  ]

  fewer : count_by (has_mark placed.marks) (range_with_len 0 n) ≤ count_by (λ m. marked network (pin_under m)) (range_with_len 0 n)
  fewer =
      sum_by-le-sum_by (λ (m : ℕ). cond {A = ℕ} (has_mark placed.marks m) 1 0) (λ m. cond {A = ℕ} (marked network (pin_under m)) 1 0) (range_with_len 0 n)
      (λ m. elim (cases_Bool (has_mark placed.marks m)) [
        | inl e ↦ rw (e, marks_network m e) (omega arith)
        | inr e ↦ rw e (omega arith)
      ])

  pub places_found : AreNumberPlaces n network ports fan places
  places_found = record {
    count = placed.placed.count;
    there = there;
    distinct = λ a b p e f. places_apart n placed.marks levels placed.nodes placed.ordered places placed.placed a b p e f;
    below = λ node p e. let low = place_low n placed.marks levels placed.nodes placed.ordered places placed.placed node p e in let more = fewer in omega arith;
    rising = λ node p q arc low c e f.
        let d = subst (λ (xs : List GraphArc). Contains xs arc) (fan_is node low) c in
        let a = kept_in (λ (x : GraphArc). x.to == node) arcs arc d in
        let to : arc.to ≡ node = eqb-true arc.to node (passes_in (λ (x : GraphArc). x.to == node) arcs arc d) in
        let up = levels_rise n (map node_link arcs) levels are (node_link arc) (in_map node_link arcs arc a) (arc_low arc a).1 in
        places_rise n placed.marks levels placed.nodes placed.ordered places placed.placed arc.from node p q
        (subst (λ (k : ℕ). get_or levels arc.from 0 < get_or levels k 0) to up) e f;
  }

-- they are those of the design's clock network
module _ (s : Stored) (num : IsNumbered s) (linked : IsLinked s.design) (fault : net_fault s.design ≡ None) (network : List Bool) (net : IsNetwork s network) where
  -- network nodes by numbers
  net_of_node : (node : ℕ) → node < node_bound s → of_node s (λ n. is_network s.design n.pin) node ≡ marked network (pin_under node)
  net_of_node node low = by (pin_numbered s (pin_under node)) ∙ sym (net.each (pin_under node) (let q : pin_under node < length s.pins = omega arith in q))
    where
      by : (o : Option Pin)
          → option_map_or (λ (n : Node). is_network s.design n.pin) (option_map (λ pin. record { pin = pin; tran = tran_under node }) o) false ≡ option_map_or (is_network s.design) o false
      by None = refl
      by (Some p) = refl

  port_of_node : (node : ℕ) → of_node s (λ n. is_network s.design n.pin) node ≡ true
      → of_node s (λ n. is_clock_port s.design n.pin) node ≡ list_any (nat_eq (pin_under node)) (clock_ports s)
  port_of_node node e = by (node_at s node) refl e
    where
      by : (o : Option Node) → node_at s node ≡ o → option_map_or (λ (n : Node). is_network s.design n.pin) o false ≡ true
          → option_map_or (λ (n : Node). is_clock_port s.design n.pin) o false ≡ list_any (nat_eq (pin_under node)) (clock_ports s)
      by None h f = absurd (false≢true f)
      by (Some nd) h f =
          let k = has_node s num linked node nd h in
          let under : pin_under node ≡ k.pin = ap pin_under k.number ∙ under_number k.pin nd.tran in
          sym (ports_begin s num linked fault nd.pin k.pin k.has) ∙ ap (λ q. list_any (nat_eq q) (clock_ports s)) (sym under)

  same_tests : (a b c d l : Bool) → a ≡ b → (b ≡ true → d ≡ c) → (a && (c || l)) ≡ (b && (d || l))
  same_tests a b c d l e h = ap (λ x. x && (c || l)) e ∙ by b h
    where
      by : (x : Bool) → (x ≡ true → d ≡ c) → (x && (c || l)) ≡ (x && (d || l))
      by false g = refl
      by true g = ap (λ y. y || l) (sym (g refl))

  pub places_are : (g : Graphed) → AreNumberPlaces (node_bound s) network (clock_ports s) (fan_at g.ins) g.places → ArePlaces (record g { stored = s; network = network })
  places_are g p = record {
    count = p.count;
    there = λ node low.
        p.there node low
        ∙ same_tests (marked network (pin_under node)) (of_node s (λ n. is_network s.design n.pin) node) (list_any (nat_eq (pin_under node)) (clock_ports s))
        (of_node s (λ n. is_clock_port s.design n.pin) node) (list_any (λ arc. is_some (get_or g.places arc.from None)) (fan_at g.ins node))
        (sym (net_of_node node low)) (port_of_node node);
    distinct = p.distinct;
    below = p.below;
    rising = p.rising;
  }
