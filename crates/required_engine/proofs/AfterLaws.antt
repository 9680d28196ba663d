-- What the arcs out of a node of a graph lead to: the required times of the nodes after it, by numbers.

use Rattle.std.proofs.Common.{◌≡◌, ℕ, ◌<◌, ℤ, List, length, get_or, All, Option, None, Some, refl, sym, ap, subst, ◌∙◌}
use Rattle.std.specs.Prelude.{Contains, slice_get, option_and_then}
use Rattle.std.specs.Option.{option_map_or}
use Rattle.std.proofs.lemmas.Option.{slice_get_within}
use Rattle.std.proofs.lemmas.List.Elements.{All-contains_itself}
use Rattle.timing_defs.specs.declared.kinds.Split.{Split}
use Rattle.timing_defs.specs.declared.kinds.Tran.{Tran}
use Rattle.timing_defs.specs.declared.rows.BackRow.{BackRow}
use Rattle.timing_defs.specs.declared.design.Design.{Design}
use Rattle.timing_defs.specs.Netlist.{Node}
use Rattle.timing_rules.specs.Rows.{arcs_in, outermost, delay}
use Rattle.timing_defs.specs.RowTimes.{time_on}
use Rattle.timing_rules.specs.Required.{arcs_out, less_some, back_row, empty_back}
use Rattle.timing_defs.specs.Kinds.{other_split}
use Rattle.timing_defs.specs.RowTimes.{back_times}
use Rattle.timing_rules.specs.Cones.{has_register_arc}
use Rattle.netlist_store.specs.Linked.{IsLinked}
use Rattle.netlist_store.specs.Numbering.{IsNumbered}
use Rattle.node_rows.proofs.MergeLaws.{AreMatched, outermost_same}
use Rattle.pin_graph.specs.declared.arcs.GraphArc.{GraphArc}
use Rattle.pin_graph.specs.Nodes.{node_at, node_bound}
use Rattle.pin_graph.specs.Graphs.{Graphed, IsGraph, IsArc, fan_at, kind_between}
use Rattle.pin_graph.specs.RowTables.{back_numbered}
use Rattle.pin_graph.proofs.NodeLaws.{node_told, node_below, has_node, same_node_at}
use Rattle.pin_graph.proofs.GraphRows.{Stands, high}
use Rattle.arc_delays.specs.Delays.{delay_numbered, delay_told, AreDelays}
use Rattle.required_engine.specs.declared.arcs_out.ArcsOut.{ArcsOut}
use Rattle.required_engine.specs.Behinds.{IsTabled, over_arc, over_arcs}
use Rattle.required_engine.specs.Worked.{IsFineBack, AreReady}
use Rattle.required_engine.proofs.BackLaws.{out_in, in_out}

module _ (g : Graphed) (num : IsNumbered g.stored) (linked : IsLinked g.stored.design) (is : IsGraph g) where
  abbrev d : Design
  d = g.stored.design

  module _ (rows : List BackRow) (k : ℕ) (low : k < node_bound g.stored) (ready : AreReady g rows k) (node : Node) (told : node_at g.stored k ≡ Some node) where
    stands : Stands g num linked is node
    stands = (k, has_node g.stored num linked k node told)

    -- an arc out of the node, between nodes
    record IsOut (arc : GraphArc) : Type 0 where
      to : Node
      number : node_at g.stored arc.to ≡ Some to
      joins : Contains (arcs_in d to) node

    out_of : (arc : GraphArc) → Contains (fan_at g.outs k) arc → IsOut arc
    out_of arc c =
        let s = (is.outs k low).sound arc c in
        let a = s.0 in
        let same : a.from ≡ node = same_node_at g.stored a.from node k (ap (node_at g.stored) (sym s.1) ∙ a.from_number) told in
        record { to = a.to; number = a.to_number; joins = subst (λ (n : Node). Contains (arcs_in d a.to) n) same a.within }

    -- an arc of the design, by its number
    onto : (to : Node) → Contains (arcs_out d node) to → (arc : GraphArc) × (Contains (fan_at g.outs k) arc × (node_at g.stored arc.to ≡ Some to))
    onto to c =
        let t = (high g num linked is).closed node stands to c in
        let arc : GraphArc = record { from = k; to = t.0; kind = kind_between d node to; edge = has_register_arc d node to } in
        let arc_is : IsArc g.stored arc = record {
          from = node;
          from_number = told;
          to = to;
          to_number = node_told g.stored to t.0 t.1;
          within = out_in g num linked is node stands to c;
          kind = refl;
          edge = refl;
        } in
        (arc, ((is.outs k low).all arc arc_is refl, node_told g.stored to t.0 t.1))

    pub behind_fine : (to : Node) → Contains (arcs_out d node) to → IsFineBack d to
    behind_fine to c = let a = onto to c in (ready.after a.0 a.1.0).fine to a.1.1

    module _ (arc : GraphArc) (c : Contains (fan_at g.outs k) arc) where
      arc_is : IsArc g.stored arc
      arc_is = ((is.outs k low).sound arc c).0

      from_is : node_at g.stored arc.from ≡ Some node
      from_is = ap (node_at g.stored) ((is.outs k low).sound arc c).1 ∙ told

      arc_low : arc.to < node_bound g.stored
      arc_low = node_below g.stored arc_is.to arc.to (has_node g.stored num linked arc.to arc_is.to arc_is.to_number)

      -- the delay to a node, by numbers
      delay_is : (split : Split) (to : Node) → node_at g.stored arc.to ≡ Some to → delay_numbered g.stored split arc.from arc.to ≡ delay d split node to
      delay_is split to e =
          ap (λ o. option_and_then (λ f. option_and_then (delay d split f) (node_at g.stored arc.to)) o) from_is
          ∙ ap (λ o. option_and_then (delay d split node) o) e

    -- the arcs with the tables
    module _ (out : ArcsOut) (arcs : out.arcs.now ≡ fan_at g.outs k) (same : out.rows.now ≡ rows) (delays : AreDelays g.stored out.delays.now) where
      tabled_arc : (arc : GraphArc) → Contains (fan_at g.outs k) arc → IsTabled out arc
      tabled_arc arc c = record {
        row = subst (λ (rs : List BackRow). arc.to < length rs) (sym same) (slice_get_within rows arc.to (back_numbered g.stored arc.to) (ready.after arc c).row);
        delays = subst (λ (n : ℕ). arc.to < n) (sym delays.count) (arc_low arc c);
      }

      pub arcs_tabled : All (IsTabled out) out.arcs.now
      arcs_tabled =
          subst (λ (xs : List GraphArc). All (IsTabled out) xs) (sym arcs)
          (λ i e l. tabled_arc (get_or (fan_at g.outs k) i e) (All-contains_itself (fan_at g.outs k) i e l))

      -- an arc of the node, and where it leads
      record IsTo (arc : GraphArc) (to : Node) : Type 0 where
        within : Contains (fan_at g.outs k) arc
        number : node_at g.stored arc.to ≡ Some to

      matched : AreMatched (fan_at g.outs k) (arcs_out d node) IsTo
      matched = record {
        there = λ arc c.
            (let o = out_of arc c in
            (o.to, in_out g num linked is o.to (arc.to, has_node g.stored num linked arc.to o.to o.number) node o.joins, record { within = c; number = o.number }));
        back = λ to c. (let o = onto to c in (o.0, o.1.0, record { within = o.1.0; number = o.1.1 }));
      }

      module _ (split : Split) (edge : ℕ × Tran) where
        abbrev less : GraphArc → BackRow → Option ℤ
        less arc r = less_some (time_on (back_times split r) edge) (delay_told out.delays.now split arc.from arc.to)

        over_arc_is : (arc : GraphArc) (to : Node) → IsTo arc to
            → over_arc out split edge arc ≡ less_some (time_on (back_times split (back_row d to)) edge) (delay d split node to)
        over_arc_is arc to i =
            ap (λ rs. option_and_then (less arc) (slice_get rs arc.to)) same
            ∙ ap (option_and_then (less arc)) (ready.after arc i.within).row
            ∙ ap (λ o. less arc (option_map_or (back_row d) o empty_back)) i.number
            ∙ ap (less_some (time_on (back_times split (back_row d to)) edge)) (delays.each split arc (arc_is arc i.within) ∙ delay_is arc i.within split to i.number)

        pub arcs_told : over_arcs out split edge
            ≡ outermost (other_split split) (λ to. less_some (time_on (back_times split (back_row d to)) edge) (delay d split node to)) None (arcs_out d node)
        arcs_told =
            ap (outermost (other_split split) (over_arc out split edge) None) arcs
            ∙ outermost_same (fan_at g.outs k) (arcs_out d node) IsTo matched (other_split split) (over_arc out split edge)
            (λ to. less_some (time_on (back_times split (back_row d to)) edge) (delay d split node to)) (λ arc to c i. over_arc_is arc to i)
