-- What the arcs into a node of a graph bring to its evaluation: the nodes before it with their rows, and
-- from these the node's own row, or its fault.

use Rattle.std.proofs.Common.{◌≡◌, ℕ, suc, ◌<◌, ℤ, Bool, true, false, List, [], ◌∷◌, map, length, get_or, All, Option, None, Some, refl, sym, ap, subst, ◌∙◌, inl, inr}
use Rattle.std.specs.Prelude.{Contains, is_some, option_map, option_and_then, if◌then◌else◌}
use Rattle.std.specs.Option.{option_map_or}
use Rattle.std.proofs.lemmas.Option.{slice_get_within, cond_some, none-some}
use Rattle.std.proofs.lemmas.List.{length-map}
use Rattle.std.proofs.lemmas.List.Elements.{All-contains_itself}
use Rattle.timing_defs.specs.declared.faults.Fault.{Fault}
use Rattle.timing_defs.specs.declared.faults.Fault.TheVariants as fault
use Rattle.timing_defs.specs.declared.faults.Place.TheVariants.{Pin as at_pin}
use Rattle.timing_defs.specs.declared.rows.NodeRow.{NodeRow}
use Rattle.timing_defs.specs.declared.kinds.Split.{Split}
use Rattle.timing_defs.specs.declared.kinds.Split.TheVariants.{Early, Late}
use Rattle.timing_defs.specs.declared.kinds.Tran.{Tran}
use Rattle.timing_defs.specs.declared.kinds.Tran.TheVariants.{Rise, Fall}
use Rattle.timing_defs.specs.Netlist.{Pin, Node, name_of, pins, nodes, both_nodes}
use Rattle.timing_rules.specs.Clocking.{is_network}
use Rattle.timing_rules.specs.Rows.{arcs_in, row, delay, delay_from, empty_row}
use Rattle.timing_rules.specs.Range.{is_origin}
use Rattle.timing_rules.specs.Cones.{has_register_arc}
use Rattle.timing_rules.proofs.RowLaws.{row_is}
use Rattle.netlist_store.specs.Linked.{IsLinked}
use Rattle.netlist_store.specs.Numbering.{Stored, name_at, is_number, pin_numbered, IsNumbered}
use Rattle.level_workers.specs.Mapped.{IsMap}
use Rattle.node_rows.specs.declared.pin_wires.Wires.{Wires}
use Rattle.node_rows.specs.declared.arcs.ArcValues.{ArcValues}
use Rattle.node_rows.specs.declared.delays.BothDelays.{BothDelays}
use Rattle.node_rows.specs.declared.settings.NodeAt.{NodeAt}
use Rattle.node_rows.specs.declared.settings.Before.{Before}
use Rattle.node_rows.specs.Between.{no_values}
use Rattle.node_rows.specs.WireTables.{AreWires}
use Rattle.node_rows.specs.NetTrees.{is_wide_net}
use Rattle.node_rows.specs.Evaluation.{node_of, IsAt, AreBefore, HaveRows, IsRow, IsRefused, is_row_within, values_along, told_values, told_delays}
use Rattle.pin_graph.specs.declared.arcs.GraphArc.{GraphArc}
use Rattle.pin_graph.specs.Nodes.{node_at, node_bound, pin_under, tran_under}
use Rattle.pin_graph.specs.Graphs.{Graphed, IsGraph, IsArc, fan_at, network_at, kind_between, to_of}
use Rattle.pin_graph.specs.RowTables.{row_numbered}
use Rattle.timing_defs.proofs.Members.{some_is, none_in, first_in, later_in, in_cases, in_flat_map}
use Rattle.store_pins.proofs.PinLaws.{pin_at_number}
use Rattle.pin_graph.proofs.NodeLaws.{HasNode, under_number, node_told, node_below, has_node, same_node_at}
use Rattle.pin_graph.proofs.GraphRows.{Stands, level, placed}
use Rattle.arc_delays.specs.declared.tables.ArcDelay.{ArcDelay}
use Rattle.arc_delays.specs.Delays.{delay_numbered, arc_delay, AreInto}
use Rattle.arrival_engine.specs.Analysed.{IsFineNode, IsNodeRow, IsNodeFault, AreReady, place_told, with_sources, IsBefore, IsThere}
use Rattle.arrival_engine.proofs.CarriedLaws.{carried}
use Rattle.arrival_engine.proofs.FineRows.{row_within_limits, is_fine, is_origin_there}

-- members of a list and of its map
module _ {I R : Type 0} (gives : I → R → Type 0) where
  pub mapped : (xs : List I) (rs : List R) → IsMap gives xs rs → (x : I) → Contains xs x → (r : R) × (Contains rs r × gives x r)
  mapped [] [] m x c = absurd (none_in x c)
  mapped [] (r ∷ rs) m x c = absurd m
  mapped (y ∷ ys) [] m x c = absurd m
  mapped (y ∷ ys) (r ∷ rs) m x c = elim (in_cases y ys x c) [
    | inl e ↦ (r, (first_in r rs, subst (λ (z : I). gives z r) e m.0))
    | inr d ↦ let k = mapped ys rs m.1 x d in (k.0, (later_in r rs k.0 k.1.0, k.1.1))
  ]

  pub mapped_from : (xs : List I) (rs : List R) → IsMap gives xs rs → (r : R) → Contains rs r → (x : I) × (Contains xs x × gives x r)
  mapped_from [] [] m r c = absurd (none_in r c)
  mapped_from [] (s ∷ ss) m r c = absurd m
  mapped_from (y ∷ ys) [] m r c = absurd m
  mapped_from (y ∷ ys) (s ∷ ss) m r c = elim (in_cases s ss r c) [
    | inl e ↦ (y, (first_in y ys, subst (λ (z : R). gives y z) e m.0))
    | inr d ↦ let k = mapped_from ys ss m.1 r d in (k.0, (later_in y ys k.0 k.1.0, k.1.1))
  ]

-- as many results as items
pub map_length : {I R : Type 0} (gives : I → R → Type 0) (xs : List I) (rs : List R) → IsMap gives xs rs → length xs ≡ length rs
map_length gives [] [] m = refl
map_length gives [] (r ∷ rs) m = absurd m
map_length gives (x ∷ xs) [] m = absurd m
map_length gives (x ∷ xs) (r ∷ rs) m = ap suc (map_length gives xs rs m.1)

-- an arc's delays, with the node from which it leads
abbrev pub told_arc : ℕ → Option ℤ → Option ℤ → ArcDelay
told_arc from early late = record { from = from; early = early; late = late }

-- what arcs bring is what the definition says of each
sourced_all : (s : Stored) (to : NodeAt) (gives : GraphArc → Before → Type 0) (arcs : List GraphArc) (found : List Before) → IsMap gives arcs found
    → ((arc : GraphArc) (b : Before) → Contains arcs arc → gives arc b → (split : Split) → (told_values s split to b).delay ≡ delay_numbered s split arc.from arc.to)
    → with_sources arcs (map (told_delays s to) found) ≡ map (arc_delay s) arcs
sourced_all s to gives [] [] m each = refl
sourced_all s to gives [] (b ∷ found) m each = absurd m
sourced_all s to gives (a ∷ arcs) [] m each = absurd m
sourced_all s to gives (a ∷ arcs) (b ∷ found) m each =
    ap (λ (o : Option ℤ). told_arc a.from o (told_values s Late to b).delay ∷ with_sources arcs (map (told_delays s to) found)) (each a b (first_in a arcs) m.0 Early)
    ∙ ap (λ (o : Option ℤ). told_arc a.from (delay_numbered s Early a.from a.to) o ∷ with_sources arcs (map (told_delays s to) found)) (each a b (first_in a arcs) m.0 Late)
    ∙ ap (λ (ds : List ArcDelay). arc_delay s a ∷ ds) (sourced_all s to gives arcs found m.1 (λ c e k i. each c e (later_in a arcs c k) i))

both_in : (pin : Pin) (t : Tran) → Contains (both_nodes pin) (record { pin = pin; tran = t })
both_in pin Rise = first_in (record { pin = pin; tran = Rise }) (record { pin = pin; tran = Fall } ∷ [])
both_in pin Fall = later_in (record { pin = pin; tran = Rise }) (record { pin = pin; tran = Fall } ∷ []) (record { pin = pin; tran = Fall }) (first_in (record { pin = pin; tran = Fall }) [])

pub node_listed : (s : Stored) (node : Node) (k : ℕ) → HasNode s node k → Contains (nodes s.design) node
node_listed s node k h = in_flat_map both_nodes (pins s.design) node.pin node h.has.within (both_in node.pin node.tran)

-- a node by its number
abbrev pub told_place : Graphed → ℕ → NodeAt
told_place g k = record { pin = pin_under k; tran = tran_under k; network = network_at g k }

module _ (g : Graphed) (num : IsNumbered g.stored) (linked : IsLinked g.stored.design) (is : IsGraph g) where
  module _ (k : ℕ) (node : Node) (told : node_at g.stored k ≡ Some node) where
    has : HasNode g.stored node k
    has = has_node g.stored num linked k node told

    under : pin_under k ≡ has.pin
    under = ap pin_under has.number ∙ under_number has.pin node.tran

    pub is_numbered : is_number g.stored.pins (pin_under k) ≡ true
    is_numbered = ap is_some (ap (name_at g.stored.pins) under ∙ has.has.name)

    pub place_is : place_told g k ≡ Some (told_place g k)
    place_is = ap (λ (b : Bool). if b then Some (told_place g k) else None) is_numbered

    pub at_is : IsAt g.stored (told_place g k) node
    at_is = record {
      told = told;
      network =
          is.network.each (pin_under k) (subst (λ (n : ℕ). n < length g.stored.pins) (sym under) has.has.below)
          ∙ ap (λ n. option_map_or (is_network g.stored.design) (pin_numbered g.stored n) false) under
          ∙ ap (λ o. option_map_or (is_network g.stored.design) o false) has.has.pin;
    }

  -- no arc leads to a gap
  no_arcs : (k : ℕ) → k < node_bound g.stored → place_told g k ≡ None → fan_at g.ins k ≡ []
  no_arcs k low none = by (fan_at g.ins k) (λ arc c. (is.ins k low).sound arc c)
    where
      by : (arcs : List GraphArc) → ((arc : GraphArc) → Contains arcs arc → IsArc g.stored arc × (to_of arc ≡ k)) → arcs ≡ []
      by [] each = refl
      by (a ∷ arcs) each =
          let s = each a (first_in a arcs) in
          let told : node_at g.stored k ≡ Some s.0.to = ap (node_at g.stored) (sym s.1) ∙ s.0.to_number in
          absurd (none-some (told_place g k) (sym none ∙ place_is k s.0.to told))

  module _ (rows : List NodeRow) (k : ℕ) (low : k < node_bound g.stored) (ready : AreReady g rows k) where
    -- an arc into the node
    pub arc_there : (arc : GraphArc) → Contains (fan_at g.ins k) arc → IsThere g rows arc
    arc_there arc c =
        let a = ((is.ins k low).sound arc c).0 in
        record {
          below = node_below g.stored a.from arc.from (has_node g.stored num linked arc.from a.from a.from_number);
          number = is_numbered arc.from a.from a.from_number;
          listed = slice_get_within rows arc.from (row_numbered g.stored arc.from) (ready.before arc c).row;
        }

    module _ (node : Node) (told : node_at g.stored k ≡ Some node) where
      -- an arc of the design, by its number
      into : (from : Node) → Contains (arcs_in g.stored.design node) from → (arc : GraphArc) × (Contains (fan_at g.ins k) arc × (node_at g.stored arc.from ≡ Some from))
      into from c =
          let h = has k node told in
          let f = (placed g num linked is).closed node (k, h) from c in
          let arc : GraphArc = record { from = f.0; to = k; kind = kind_between g.stored.design from node; edge = has_register_arc g.stored.design from node } in
          let arc_is : IsArc g.stored arc = record {
            from = from;
            from_number = node_told g.stored from f.0 f.1;
            to = node;
            to_number = told;
            within = c;
            kind = refl;
            edge = refl;
          } in
          (arc, ((is.ins k low).all arc arc_is refl, node_told g.stored from f.0 f.1))

      pub before_fine : (from : Node) → Contains (arcs_in g.stored.design node) from → IsFineNode g.stored.design from
      before_fine from c = let a = into from c in (ready.before a.0 a.1.0).fine from a.1.1

      module _ (found : List Before) (are_found : IsMap (IsBefore g rows) (fan_at g.ins k) found) where
        -- an item with its arc
        record IsFrom (b : Before) : Type 0 where
          arc : GraphArc
          within : Contains (fan_at g.ins k) arc
          from : Node
          is_from : node_at g.stored arc.from ≡ Some from
          joined : Contains (arcs_in g.stored.design node) from
          at : told_place g arc.from ≡ b.node
          its_row : b.row.now ≡ row g.stored.design from

        from_is : (arc : GraphArc) (b : Before) → Contains (fan_at g.ins k) arc → IsBefore g rows arc b → IsFrom b
        from_is arc b c i =
            let s = (is.ins k low).sound arc c in
            let a = s.0 in
            let same : a.to ≡ node = same_node_at g.stored a.to node k (ap (node_at g.stored) (sym s.1) ∙ a.to_number) told in
            record {
              arc = arc;
              within = c;
              from = a.from;
              is_from = a.from_number;
              joined = subst (λ (n : Node). Contains (arcs_in g.stored.design n) a.from) same a.within;
              at = some_is (sym (place_is arc.from a.from a.from_number) ∙ i.node);
              its_row = some_is (sym i.row ∙ (ready.before arc c).row) ∙ ap (λ o. option_map_or (row g.stored.design) o empty_row) a.from_number;
            }

        from_of : (b : Before) → Contains found b → IsFrom b
        from_of b c = let m = mapped_from (IsBefore g rows) (fan_at g.ins k) found are_found b c in from_is m.0 b m.1.0 m.1.1

        pub are_before : AreBefore g.stored (told_place g k) found
        are_before = record {
          to = node;
          there = at_is k node told;
          sound = λ b c.
              (let f = from_of b c in
              record { from = f.from; there = subst (λ (n : NodeAt). IsAt g.stored n f.from) f.at (at_is f.arc.from f.from f.is_from); joined = f.joined });
          all = λ from c.
              (let a = into from c in
              let m = mapped (IsBefore g rows) (fan_at g.ins k) found are_found a.0 a.1.0 in
              let at : told_place g a.0.from ≡ m.0.node = some_is (sym (place_is a.0.from from a.1.1) ∙ m.1.1.node) in
              (m.0, (m.1.0, ap (node_of g.stored) (sym at) ∙ a.1.1)));
          within = λ b c.
              (let f = from_of b c in
              ap is_row_within f.its_row
              ∙ row_within_limits g.stored.design (Stands g num linked is) (level g num linked is) (placed g num linked is) f.from
              (f.arc.from, has f.arc.from f.from f.is_from) ((ready.before f.arc f.within).fine f.from f.is_from));
        }

        pub have_rows : HaveRows g.stored (row g.stored.design) found
        have_rows b from c e =
            let f = from_of b c in
            let same : f.from ≡ from = some_is (sym f.is_from ∙ ap (node_of g.stored) f.at ∙ e) in
            f.its_row ∙ ap (row g.stored.design) same

        -- the delays of the arcs into the node
        arc_told : (arc : GraphArc) (b : Before) → Contains (fan_at g.ins k) arc → IsBefore g rows arc b → (split : Split)
            → (told_values g.stored split (told_place g k) b).delay ≡ delay_numbered g.stored split arc.from arc.to
        arc_told arc b c i split =
            let s = (is.ins k low).sound arc c in
            let a = s.0 in
            let at : told_place g arc.from ≡ b.node = some_is (sym (place_is arc.from a.from a.from_number) ∙ i.node) in
            let from_told : node_of g.stored b.node ≡ Some a.from = ap (node_of g.stored) (sym at) ∙ a.from_number in
            let to_told : node_at g.stored arc.to ≡ Some node = ap (node_at g.stored) s.1 ∙ told in
            let row_is : b.row.now ≡ row g.stored.design a.from =
            some_is (sym i.row ∙ (ready.before arc c).row) ∙ ap (λ o. option_map_or (row g.stored.design) o empty_row) a.from_number in
            let values_are : told_values g.stored split (told_place g k) b ≡ values_along g.stored.design split node a.from b.row.now =
            ap (λ o. option_map_or (λ t. option_map_or (λ f. values_along g.stored.design split t f b.row.now) (node_of g.stored b.node) no_values) o no_values) told
            ∙ ap (λ o. option_map_or (λ f. values_along g.stored.design split node f b.row.now) o no_values) from_told in
            ap (λ (v : ArcValues). v.delay) values_are
            ∙ ap (delay_from g.stored.design split a.from node) row_is
            ∙ sym (ap (λ o. option_and_then (λ f. option_and_then (delay g.stored.design split f) (node_at g.stored arc.to)) o) a.from_number
            ∙ ap (λ o. option_and_then (delay g.stored.design split a.from) o) to_told)

        pub are_sourced : with_sources (fan_at g.ins k) (map (told_delays g.stored (told_place g k)) found) ≡ map (arc_delay g.stored) (fan_at g.ins k)
        are_sourced = sourced_all g.stored (told_place g k) (IsBefore g rows) (fan_at g.ins k) found are_found arc_told

      -- the row of the node, or its fault
      module _ (wires : Wires) (are : AreWires g.stored wires) (nets : (net : ℕ) → is_wide_net g.stored net ≡ false) where
        stands : Stands g num linked is node
        stands = (k, has k node told)

        pub row_told : (told_row : NodeRow) → IsRow g.stored.design (row g.stored.design) node told_row → IsNodeRow g.stored k told_row
        row_told told_row r = record {
          row =
              r.row ∙ sym (row_is g.stored.design (Stands g num linked is) (level g num linked is) (placed g num linked is) node stands)
              ∙ sym (ap (λ o. option_map_or (row g.stored.design) o empty_row) told);
          fine = λ n e.
              (subst (λ (m : Node). IsFineNode g.stored.design m) (same_node_at g.stored node n k told e)
              (is_fine g.stored.design (Stands g num linked is) (level g num linked is) (placed g num linked is) node stands before_fine
              (carried g.stored num linked wires are nets node k (has k node told)) r.fine));
        }

        pin_name : name_at g.stored.pins (pin_under k) ≡ Some (name_of node.pin)
        pin_name = ap (name_at g.stored.pins) (under k node told) ∙ (has k node told).has.name

        pub fault_told : (f : Fault) → IsRefused g.stored.design (row g.stored.design) node f → IsNodeFault g.stored k f
        fault_told (fault.OutOfRange place) r = (
          sym (ap (option_map at_pin) pin_name ∙ ap Some (sym r.0)),
          ap (is_origin g.stored.design) r.0
              ∙ is_origin_there g.stored.design (Stands g num linked is) (level g num linked is) (placed g num linked is) node stands before_fine
              (carried g.stored num linked wires are nets node k (has k node told)) r.1 (node_listed g.stored node k (has k node told)),
        )
        fault_told fault.Memory r = r
        fault_told (fault.UnknownInstance x) r = absurd r
        fault_told (fault.UnknownNet x) r = absurd r
        fault_told (fault.UnknownCell x) r = absurd r
        fault_told (fault.UnknownPin x) r = absurd r
        fault_told (fault.NameTaken x) r = absurd r
        fault_told (fault.PinsDiffer x) r = absurd r
        fault_told (fault.AlreadyConnected x) r = absurd r
        fault_told (fault.NotConnected x) r = absurd r
        fault_told (fault.InUse x) r = absurd r
        fault_told (fault.ManyDrivers x) r = absurd r
        fault_told (fault.Loop x) r = absurd r
        fault_told (fault.ClockNotTree x) r = absurd r
        fault_told (fault.ConstraintDangling x) r = absurd r
        fault_told (fault.RcNotTree x) r = absurd r
        fault_told (fault.RcPinsDiffer x) r = absurd r
        fault_told (fault.TooLarge x) r = absurd r

-- as the evaluation has them: the graph is that of a store
module _ (g : Graphed) (s : Stored) (same : g.stored ≡ s) (num : IsNumbered s) (linked : IsLinked s.design) (is : IsGraph g)
    (rows : List NodeRow) (k : ℕ) (low : k < node_bound g.stored) (ready : AreReady g rows k) where
  own_num : IsNumbered g.stored
  own_num = subst (λ (x : Stored). IsNumbered x) (sym same) num

  own_linked : IsLinked g.stored.design
  own_linked = subst (λ (x : Stored). IsLinked x.design) (sym same) linked

  pub arcs_there : All (IsThere g rows) (fan_at g.ins k)
  arcs_there = λ i d l. arc_there g own_num own_linked is rows k low ready (get_or (fan_at g.ins k) i d) (All-contains_itself (fan_at g.ins k) i d l)

  pub none_into : place_told g k ≡ None → (all : List ArcDelay) → all ≡ [] → AreInto g k all
  none_into none all e = e ∙ sym (ap (map (arc_delay g.stored)) (no_arcs g own_num own_linked is k low none))

  module _ (to : NodeAt) (found : List Before) (place : place_told g k ≡ Some to) (are_found : IsMap (IsBefore g rows) (fan_at g.ins k) found) where
    there_at : (is_number g.stored.pins (pin_under k) ≡ true) × (told_place g k ≡ to)
    there_at = cond_some (is_number g.stored.pins (pin_under k)) (told_place g k) to place

    node_there : (n : Node) × (node_at g.stored k ≡ Some n)
    node_there =
        let p = pin_at_number g.stored own_num own_linked (pin_under k) there_at.0 in
        (record { pin = p.0; tran = tran_under k }, ap (option_map (λ (pin : Pin). record { pin = pin; tran = tran_under k })) p.1.pin)

    pub befores_told : AreBefore s to found
    befores_told =
        subst (λ (x : Stored). AreBefore x to found) same
        (subst (λ (a : NodeAt). AreBefore g.stored a found) there_at.1
        (are_before g own_num own_linked is rows k low ready node_there.0 node_there.1 found are_found))

    rows_had : HaveRows s (row s.design) found
    rows_had =
        subst (λ (x : Stored). HaveRows x (row x.design) found) same
        (have_rows g own_num own_linked is rows k low ready node_there.0 node_there.1 found are_found)

    node_told_there : node_of s to ≡ Some node_there.0
    node_told_there =
        subst (λ (x : Stored). node_of x to ≡ Some node_there.0) same
        (subst (λ (a : NodeAt). node_of g.stored a ≡ Some node_there.0) there_at.1 node_there.1)

    delays_had : with_sources (fan_at g.ins k) (map (told_delays s to) found) ≡ map (arc_delay g.stored) (fan_at g.ins k)
    delays_had =
        subst (λ (x : Stored). with_sources (fan_at g.ins k) (map (told_delays x to) found) ≡ map (arc_delay g.stored) (fan_at g.ins k)) same
        (subst (λ (a : NodeAt). with_sources (fan_at g.ins k) (map (told_delays g.stored a) found) ≡ map (arc_delay g.stored) (fan_at g.ins k)) there_at.1
        (are_sourced g own_num own_linked is rows k low ready node_there.0 node_there.1 found are_found))

    module _ (delays : List BothDelays) (arcs : List GraphArc) (are_told : delays ≡ map (told_delays s to) found) (own_arcs : arcs ≡ fan_at g.ins k) where
      pub as_many : length delays ≡ length arcs
      as_many =
          ap length are_told ∙ length-map found (told_delays s to) ∙ sym (map_length (IsBefore g rows) (fan_at g.ins k) found are_found) ∙ sym (ap length own_arcs)

      pub delays_given : (all : List ArcDelay) → all ≡ with_sources arcs delays → AreInto g k all
      delays_given all e = e ∙ ap (λ xs. with_sources xs delays) own_arcs ∙ ap (with_sources (fan_at g.ins k)) are_told ∙ delays_had

    module _ (wires : Wires) (are : AreWires s wires) (nets : (net : ℕ) → is_wide_net s net ≡ false) where
      own_are : AreWires g.stored wires
      own_are = subst (λ (x : Stored). AreWires x wires) (sym same) are

      own_nets : (net : ℕ) → is_wide_net g.stored net ≡ false
      own_nets = subst (λ (x : Stored). (net : ℕ) → is_wide_net x net ≡ false) (sym same) nets

      pub row_given : (told : NodeRow) → ((row_of : Node → NodeRow) (n : Node) → node_of s to ≡ Some n → HaveRows s row_of found → IsRow s.design row_of n told)
          → IsNodeRow g.stored k told
      row_given told each =
          row_told g own_num own_linked is rows k low ready node_there.0 node_there.1 wires own_are own_nets told
          (subst (λ (x : Stored). IsRow x.design (row x.design) node_there.0 told) (sym same) (each (row s.design) node_there.0 node_told_there rows_had))

      pub fault_given : (f : Fault) → ((row_of : Node → NodeRow) (n : Node) → node_of s to ≡ Some n → HaveRows s row_of found → IsRefused s.design row_of n f)
          → IsNodeFault g.stored k f
      fault_given f each =
          fault_told g own_num own_linked is rows k low ready node_there.0 node_there.1 wires own_are own_nets f
          (subst (λ (x : Stored). IsRefused x.design (row x.design) node_there.0 f) (sym same) (each (row s.design) node_there.0 node_told_there rows_had))
