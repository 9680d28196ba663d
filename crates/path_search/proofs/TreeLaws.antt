-- The clock tree of a graph, as its rows are made one by one.

use Rattle.std.proofs.Common.{◌≡◌, ℕ, zero, suc, ◌+◌, ◌<◌, ◌≤◌, ℤ, pos, true, false, List, [], ◌∷◌, ◌++◌, map, length, get_or, Option, None, Some, refl, sym, ap, subst, ◌∙◌, inl, inr, arith}
use Rattle.std.specs.List.{list_any}
use Rattle.std.specs.Prelude.{Contains, IfSome, ◌&&◌, ◌||◌, is_some, slice_get, slice_index, slice_index_or, option_map, option_and_then, unsigned_abs}
use Rattle.std.specs.Option.{option_map_or}
use Rattle.std.proofs.lemmas.Bool.{cases_eq, cases_lt, false≢true, and_parts, leb-true}
use Rattle.std.proofs.lemmas.List.{get_or_append_left, get_or_push, get_or_past}
use Rattle.std.proofs.lemmas.Option.{slice_get_within}
use Rattle.sta_units.specs.Numbers.{limit, Within, is_within}
use Rattle.timing_defs.specs.declared.kinds.Split.TheVariants.{Early, Late}
use Rattle.timing_defs.specs.declared.kinds.Tran.{Tran}
use Rattle.timing_defs.specs.declared.rows.NodeRow.{NodeRow}
use Rattle.timing_defs.specs.declared.design.Design.{Design}
use Rattle.timing_defs.specs.Netlist.{Node, pins, pin_named, same_tran}
use Rattle.timing_rules.specs.Clocking.{is_network, is_clock_port}
use Rattle.timing_rules.specs.Rows.{arcs_in, arrival, is_clock_at, launch_edges, row, empty_row}
use Rattle.timing_defs.specs.RowTimes.{edge_of}
use Rattle.timing_rules.specs.Range.{within_some}
use Rattle.timing_rules.specs.Tests.{network_walk, first_edge}
use Rattle.netlist_store.specs.Numbering.{Stored, name_at, IsNumbered}
use Rattle.netlist_store.specs.Linked.{IsLinked}
use Rattle.pin_graph.specs.declared.arcs.GraphArc.{GraphArc}
use Rattle.pin_graph.specs.Nodes.{node_at, node_bound, pin_under}
use Rattle.pin_graph.specs.Graphs.{Graphed, IsGraph, AreClockNodes, fan_at, place_at, of_node}
use Rattle.pin_graph.specs.RowTables.{AreRows, AreRowsFine}
use Rattle.timing_defs.proofs.Members.{some_is, first_in, found_in}
use Rattle.pin_graph.proofs.NodeLaws.{has_node, same_node_at}
use Rattle.pin_graph.proofs.JoinLaws.{then_back}
use Rattle.node_tests.proofs.ClimbLaws.{node_pin}
use Rattle.pessimism_credit.specs.declared.rows.TreeRow.{TreeRow}
use Rattle.pessimism_credit.specs.Credit.{IsBefore, IsTreeFrom, IsTree}
use Rattle.node_tests.specs.declared.climbs.WalkStart.{WalkStart}
use Rattle.node_tests.specs.Walks.{StartsOn, first_from}
use Rattle.timing_defs.specs.declared.edge_times.LaunchEdge.{LaunchEdge}
use Rattle.path_search.specs.Runs.{IsTimed}
use Rattle.path_search.specs.Trees.{walk_edge, both_times, times_at, times_told, parent_place, IsTreeRow, IsClockTree, ArePlaceNodes, AreEdges, IsEdgeAt, IsRowAt}
use Rattle.path_search.proofs.Setting.{timed}
use Rattle.path_search.proofs.Prefixes.{walk_is_told, walk_more}
use Rattle.path_search.proofs.Ranges.{arrivals_within}

-- the edge on which a walk is told to start
pub some_edge : (s : Stored) (o : Option Node) (start : WalkStart) → StartsOn s (option_and_then (network_walk s.design) o) (Some start)
    → Some (start.clock, start.tran) ≡ option_and_then (walk_edge s.design) o
some_edge s None start h = absurd h
some_edge s (Some n) start h = by (network_walk s.design n) refl h
  where
    by : (w : Option (List Node)) → network_walk s.design n ≡ w → StartsOn s w (Some start) → Some (start.clock, start.tran) ≡ walk_edge s.design n
    by None e k = absurd k
    by (Some w) e k = sym (ap (option_and_then (first_edge s.design)) e ∙ k.edge)

pub none_edge : (s : Stored) (o : Option Node) → StartsOn s (option_and_then (network_walk s.design) o) None → None ≡ option_and_then (walk_edge s.design) o
none_edge s None h = refl
none_edge s (Some n) h = by (network_walk s.design n) refl h
  where
    by : (w : Option (List Node)) → network_walk s.design n ≡ w → StartsOn s w None → None ≡ walk_edge s.design n
    by None e k = sym (ap (option_and_then (first_edge s.design)) e)
    by (Some w) e k = absurd k

pub ruleset edges_told = (some_edge, none_edge)

-- the edge of a walk is a launch edge
pub edge_launched : (d : Design) (node : Node) (edge : ℕ × Tran) → walk_edge d node ≡ Some edge → Contains (launch_edges d) edge
edge_launched d node edge e =
    let w = then_back (first_edge d) (network_walk d node) edge e in
    by w.0 w.2
  where
    by : (w : List Node) → first_edge d w ≡ Some edge → Contains (launch_edges d) edge
    by [] f = absurd (cc)
    by (n ∷ ns) f = found_in (λ (x : ℕ × Tran). is_clock_at d.constraints.clocks x.0 n.pin.own && same_tran x.1 n.tran) (launch_edges d) edge f

-- the number of a node is below the bound
pub number_low : (s : Stored) (number : ℕ) (node : Node) → node_at s number ≡ Some node → number < node_bound s
number_low s number node e =
    let a = then_back (pin_named s.design) (name_at s.pins (pin_under number)) node.pin (node_pin s number node e).0 in
    let b = then_back (λ (name : Option (List ℕ)). name) (slice_get s.pins (pin_under number)) a.0 a.1 in
    let c = slice_get_within s.pins (pin_under number) b.0 b.1 in
    omega (arith, c)

-- an item of a list whose items are all there
mapped_at : (xs : List ℕ) (k n : ℕ) → slice_index_or (map Some xs) k None ≡ Some n → (k < length xs) × (slice_index xs k ≡ n)
mapped_at [] k n e = absurd (cc)
mapped_at (x ∷ xs) zero n e = (omega arith, some_is e)
mapped_at (x ∷ xs) (suc k) n e = let r = mapped_at xs k n e in let l = r.0 in (omega (arith, l), r.1)

at_mapped : (xs : List ℕ) (k n : ℕ) → k < length xs → slice_index xs k ≡ n → slice_index_or (map Some xs) k None ≡ Some n
at_mapped [] k n low e = absurd (omega (arith, low))
at_mapped (x ∷ xs) zero n low e = ap Some e
at_mapped (x ∷ xs) (suc k) n low e = at_mapped xs k n (omega (arith, low)) e

-- the nodes of places, as the graph lists them
pub place_nodes_are : (g : Graphed) (order : List ℕ) (nodes : List (Option ℕ)) → AreClockNodes g order → nodes ≡ map Some order → ArePlaceNodes g nodes
place_nodes_are g order nodes are e = subst (λ (xs : List (Option ℕ)). ArePlaceNodes g xs) (sym e) (record {
  told = λ place number at.
      (let m = mapped_at order place number at in
      subst (λ (n : ℕ). place_at g n ≡ Some place) m.1 (are.told place m.0).1);
  there = λ number place at. (let m = are.there number place at in at_mapped order place number m.0 m.1);
})

module _ (g : Graphed) (is : IsGraph g) where
  pub place_low : (number place : ℕ) → place_at g number ≡ Some place → number < node_bound g.stored
  place_low number place e = elim (cases_lt number (node_bound g.stored)) [
    | inl low ↦ low
    | inr high ↦
        let past : place_at g number ≡ None = get_or_past g.places number None (let c = is.places.count in omega (arith, high, c)) in
        let clash : None ≡ Some place = sym past ∙ e in
        absurd (cc)
  ]

  -- a node that has a place, and its parent's place
  module _ (num : IsNumbered g.stored) (linked : IsLinked g.stored.design) (number place : ℕ) (at : place_at g number ≡ Some place) where
    pub placed_node : (node : Node) × (node_at g.stored number ≡ Some node) × (is_network g.stored.design node.pin ≡ true)
    placed_node =
        let low = place_low number place at in
        let both = and_parts (of_node g.stored (λ n. is_network g.stored.design n.pin) number)
        (of_node g.stored (λ n. is_clock_port g.stored.design n.pin) number || list_any (λ arc. is_some (place_at g arc.from)) (fan_at g.ins number)) (sym (is.places.there number low) ∙ ap is_some at) in
        by (node_at g.stored number) refl both.0
      where
        by : (o : Option Node) → node_at g.stored number ≡ o → option_map_or (λ (n : Node). is_network g.stored.design n.pin) o false ≡ true
            → (node : Node) × (node_at g.stored number ≡ Some node) × (is_network g.stored.design node.pin ≡ true)
        by None e h = absurd (false≢true h)
        by (Some n) e h = (n, e, h)

    pub record IsParent (up : ℕ) : Type 0 where
      pub arc : GraphArc
      pub within : Contains (fan_at g.ins number) arc
      pub placed : place_at g arc.from ≡ Some up
      pub low : up < place
      pub node : Node
      pub its : node_at g.stored arc.from ≡ Some node
      pub joined : (to : Node) → node_at g.stored number ≡ Some to → Contains (arcs_in g.stored.design to) node

    pub parent_of_place : (up : ℕ) → parent_place g number ≡ Some up → IsParent up
    parent_of_place up e =
        let low = place_low number place at in
        let f = then_back (place_at g) (first_from (fan_at g.ins number)) up e in
        let h = head (fan_at g.ins number) f.0 f.1 in
        let arc = (is.ins number low).sound h.0 h.1 in
        let from : place_at g h.0.from ≡ Some up = ap (place_at g) h.2 ∙ f.2 in
        record {
          arc = h.0;
          within = h.1;
          placed = from;
          low = is.places.rising number up place h.0 low h.1 from at;
          node = arc.0.from;
          its = arc.0.from_number;
          joined = λ to e.
              (let same : arc.0.to ≡ to = same_node_at g.stored arc.0.to to number (ap (node_at g.stored) (sym arc.1) ∙ arc.0.to_number) e in
              subst (λ (n : Node). Contains (arcs_in g.stored.design n) arc.0.from) same arc.0.within);
        }
      where
        head : (arcs : List GraphArc) (from : ℕ) → first_from arcs ≡ Some from → (arc : GraphArc) × Contains arcs arc × (arc.from ≡ from)
        head [] from f = absurd (cc)
        head (arc ∷ arcs) from f = (arc, first_in arc arcs, some_is f)

    -- a node starts on the edge of the node before it
    pub edge_inherited : (up : ℕ) (p : IsParent up) (to : Node) → node_at g.stored number ≡ Some to → walk_edge g.stored.design to ≡ walk_edge g.stored.design p.node
    edge_inherited up p to e =
        let t = timed g num linked is in
        let n = placed_node in
        let same : n.0 ≡ to = same_node_at g.stored n.0 to number n.1 e in
        let net : is_network g.stored.design to.pin ≡ true = ap (λ (m : Node). is_network g.stored.design m.pin) (sym same) ∙ n.2 in
        let there : Contains (pins g.stored.design) to.pin = (has_node g.stored num linked number to e).has.within in
        let before : Contains (pins g.stored.design) p.node.pin = (has_node g.stored num linked p.arc.from p.node p.its).has.within in
        ap (option_and_then (first_edge g.stored.design)) (walk_more g.stored.design t to there net p.node (p.joined to e))
        ∙ by t before (network_walk g.stored.design p.node) refl
      where
        by : (t : IsTimed g.stored.design) → Contains (pins g.stored.design) p.node.pin → (o : Option (List Node)) → network_walk g.stored.design p.node ≡ o
            → option_and_then (first_edge g.stored.design) (option_map (λ w. w ++ to ∷ []) o) ≡ option_and_then (first_edge g.stored.design) o
        by t c None f = refl
        by t c (Some w) f =
            let r = walk_is_told g.stored.design t p.node c w f in
            ap (λ (xs : List Node). first_edge g.stored.design (xs ++ to ∷ [])) r.begins ∙ sym (ap (first_edge g.stored.design) r.begins)

  -- the row of a node within the limits
  module _ (num : IsNumbered g.stored) (linked : IsLinked g.stored.design) (fine : AreRowsFine g.stored.design) (number place : ℕ) (at : place_at g number ≡ Some place)
      (node : Node) (its : node_at g.stored number ≡ Some node) where
    times_fine : (edge : Option (ℕ × Tran)) → walk_edge g.stored.design node ≡ edge → (early late : ℤ)
        → (early, late) ≡ option_map_or (times_at g.stored.design node) edge (pos 0, pos 0) → (is_within early ≡ true) × (is_within late ≡ true)
    times_fine None e early late f = (ap (λ (p : ℤ × ℤ). is_within p.0) f, ap (λ (p : ℤ × ℤ). is_within p.1) f)
    times_fine (Some edge) e early late f =
        let there : Contains (pins g.stored.design) node.pin = (has_node g.stored num linked number node its).has.within in
        let l = edge_launched g.stored.design node edge e in
        by (arrival g.stored.design Early node edge) (arrival g.stored.design Late node edge) (arrivals_within g num linked is fine Early node there edge l)
        (arrivals_within g num linked is fine Late node there edge l) f
      where
        by : (a b : Option ℤ) → within_some a ≡ true → within_some b ≡ true → (early, late) ≡ both_times a b → (is_within early ≡ true) × (is_within late ≡ true)
        by None b p q h = (ap (λ (p : ℤ × ℤ). is_within p.0) h, ap (λ (p : ℤ × ℤ). is_within p.1) h)
        by (Some x) None p q h = (ap (λ (p : ℤ × ℤ). is_within p.0) h, ap (λ (p : ℤ × ℤ). is_within p.1) h)
        by (Some x) (Some y) p q h = (ap (λ (p : ℤ × ℤ). is_within p.0) h ∙ p, ap (λ (p : ℤ × ℤ). is_within p.1) h ∙ q)

    pub row_fine : (row : TreeRow) → IsTreeRow g number node row → IsBefore row.parent place × Within row.early.0 × Within row.late.0
    row_fine row told =
        let w = times_fine (walk_edge g.stored.design node) refl row.early.0 row.late.0 told.times in
        (before row.parent told.parent, within row.early.0 w.0, within row.late.0 w.1)
      where
        before : (o : Option ℕ) → o ≡ parent_place g number → IsBefore o place
        before None e = tt
        before (Some up) e = (parent_of_place num linked number place at up (sym e)).low

        within : (z : ℤ) → is_within z ≡ true → Within z
        within z e = leb-true (unsigned_abs z) limit e

-- the row that is made of a node's arrivals
pub row_told : (g : Graphed) (rows : List NodeRow) (n : ℕ) (from : NodeRow) (edge : Option LaunchEdge) (made : TreeRow) → AreRows g.stored rows → n < node_bound g.stored
    → slice_get rows n ≡ Some from → IsEdgeAt g (Some n) edge → made.parent ≡ parent_place g n → (made.early.0, made.late.0) ≡ times_told from edge → IsRowAt g (Some n) made
row_told g rows n from edge made are low got h parent times = λ m e. record {
  parent = parent;
  times =
      times
      ∙ ap (λ (r : NodeRow). times_told r edge) (some_is (sym got ∙ are.row n low) ∙ ap (λ o. option_map_or (row g.stored.design) o empty_row) e)
      ∙ by m edge
      ∙ ap (λ o. option_map_or (times_at g.stored.design m) o (pos 0, pos 0)) (h m e);
}
  where
    by : (m : Node) (o : Option LaunchEdge) → times_told (row g.stored.design m) o ≡ option_map_or (times_at g.stored.design m) (option_map edge_of o) (pos 0, pos 0)
    by m None = refl
    by m (Some x) = refl

-- the rows of the first places
pub record AreTreeRows (g : Graphed) (nodes : List (Option ℕ)) (edges : List (Option LaunchEdge)) (rows : List TreeRow) (done : ℕ) : Type 0 where
  pub edge_count : length edges ≡ done
  pub count : length rows ≡ done
  pub starts : AreEdges g edges
  pub tree : IsTree rows
  pub made : (place : ℕ) → place < done → (row : TreeRow) × (slice_get rows place ≡ Some row) × IsRowAt g (slice_index_or nodes place None) row

tree_more : (k : ℕ) (rows : List TreeRow) (row : TreeRow) → IsTreeFrom k rows → IsBefore row.parent (k + length rows) → Within row.early.0 → Within row.late.0
    → IsTreeFrom k (rows ++ row ∷ [])
tree_more k [] row t b e l = (subst (λ (n : ℕ). IsBefore row.parent n) (omega arith) b, e, l, tt)
tree_more k (r ∷ rows) row t b e l =
    (t.0, t.1, t.2, tree_more (suc k) rows row t.3 (subst (λ (n : ℕ). IsBefore row.parent n) (omega arith) b) e l)

get_before : {X : Type 0} (xs : List X) (x : X) (n : ℕ) (y : X) → slice_get xs n ≡ Some y → slice_get (xs ++ x ∷ []) n ≡ Some y
get_before [] x n y e = absurd (cc)
get_before (z ∷ zs) x zero y e = e
get_before (z ∷ zs) x (suc n) y e = get_before zs x n y e

get_last : {X : Type 0} (xs : List X) (x : X) (n : ℕ) → length xs ≡ n → slice_get (xs ++ x ∷ []) n ≡ Some x
get_last [] x zero e = refl
get_last [] x (suc n) e = absurd (omega (arith, e))
get_last (z ∷ zs) x zero e = absurd (omega (arith, e))
get_last (z ∷ zs) x (suc n) e = get_last zs x n (omega (arith, e))

pub rows_start : (g : Graphed) (nodes : List (Option ℕ)) → AreTreeRows g nodes [] [] 0
rows_start g nodes = record {
  edge_count = refl;
  count = refl;
  starts = record { edge = λ number place node low e f. absurd (omega (arith, low)) };
  tree = tt;
  made = λ place low. absurd (omega (arith, low));
}

module _ (g : Graphed) (s : Stored) (same : g.stored ≡ s) (num : IsNumbered s) (linked : IsLinked s.design) (is : IsGraph g) (fine : AreRowsFine s.design)
    (nodes : List (Option ℕ)) (are : ArePlaceNodes g nodes) where
  its_numbers : IsNumbered g.stored
  its_numbers = subst (λ (z : Stored). IsNumbered z) (sym same) num

  its_links : IsLinked g.stored.design
  its_links = subst (λ (z : Stored). IsLinked z.design) (sym same) linked

  its_range : AreRowsFine g.stored.design
  its_range = subst (λ (z : Stored). AreRowsFine z.design) (sym same) fine

  module _ (edges more : List (Option LaunchEdge)) (rows longer : List TreeRow) (done : ℕ) (had : AreTreeRows g nodes edges rows done) (edge : Option LaunchEdge) (row : TreeRow)
      (put_edge : more ≡ edges ++ edge ∷ []) (put_row : longer ≡ rows ++ row ∷ []) where
    edges_more : (node : Option ℕ) → slice_index_or nodes done None ≡ node → IsEdgeAt g node edge → AreEdges g (edges ++ edge ∷ [])
    edges_more node at h = record {
      edge = λ number place m low p e. elim (cases_eq place done) [
        | inl here ↦
            let n : slice_index_or nodes done None ≡ Some number =
            are.there number done (p ∙ ap Some here) in
            let k : IsEdgeAt g (Some number) edge = subst (λ (o : Option ℕ). IsEdgeAt g o edge) (sym at ∙ n) h in
            ap (option_map edge_of) (ap (λ k. get_or (edges ++ edge ∷ []) k None) here ∙ get_or_push edges edge None done had.edge_count) ∙ k m e
        | inr other ↦
            let before : place < length edges = (let c = had.edge_count in let l = longer_by edges edge in omega (arith, low, other, c, l)) in
            ap (option_map edge_of) (get_or_append_left edges (edge ∷ []) None place before) ∙ had.starts.edge number place m before p e
      ];
    }
      where
        longer_by : (xs : List (Option LaunchEdge)) (x : Option LaunchEdge) → length (xs ++ x ∷ []) ≡ suc (length xs)
        longer_by [] x = refl
        longer_by (y ∷ ys) x = ap suc (longer_by ys x)

    row_limits : (node : Option ℕ) → slice_index_or nodes done None ≡ node → IsRowAt g node row → IsBefore row.parent done × Within row.early.0 × Within row.late.0
    row_limits None at h =
        subst (λ (r : TreeRow). IsBefore r.parent done × Within r.early.0 × Within r.late.0) (sym h) (tt, (omega arith), (omega arith))
    row_limits (Some n) at h =
        let p = are.told done n at in
        let m = placed_node g is its_numbers its_links n done p in
        row_fine g is its_numbers its_links its_range n done p m.0 m.1 row (h m.0 m.1)

    rows_made : (node : Option ℕ) → slice_index_or nodes done None ≡ node → IsEdgeAt g node edge → IsRowAt g node row
        → AreTreeRows g nodes (edges ++ edge ∷ []) (rows ++ row ∷ []) (done + 1)
    rows_made node at e h =
        let w = row_limits node at h in
        record {
          edge_count = count_more edges edge done had.edge_count;
          count = count_more rows row done had.count;
          starts = edges_more node at e;
          tree = tree_more 0 rows row had.tree (subst (λ (n : ℕ). IsBefore row.parent n) (let c = had.count in let e : done ≡ 0 + length rows = omega (arith, c) in e) w.0) w.1 w.2;
          made = λ place low. elim (cases_eq place done) [
            | inl here ↦
                (row, get_last rows row place (had.count ∙ sym here), subst (λ (o : Option ℕ). IsRowAt g o row) (sym (ap (λ k. slice_index_or nodes k None) here ∙ at)) h)
            | inr other ↦
                let r = had.made place (omega (arith, low, other)) in
                (r.0, get_before rows row place r.0 r.1, r.2)
          ];
        }
      where
        count_more : {X : Type 0} (xs : List X) (x : X) (n : ℕ) → length xs ≡ n → length (xs ++ x ∷ []) ≡ n + 1
        count_more [] x n c = (omega (arith, c))
        count_more (y ∷ ys) x zero c = absurd (omega (arith, c))
        count_more (y ∷ ys) x (suc n) c = (let r = count_more ys x n (omega (arith, c)) in omega (arith, r))

    pub rows_more : (node : Option ℕ) → slice_index_or nodes done None ≡ node → IsEdgeAt g node edge → IsRowAt g node row → AreTreeRows g nodes more longer (done + 1)
    rows_more node at e h =
        subst (λ (xs : List (Option LaunchEdge)). AreTreeRows g nodes xs longer (done + 1)) (sym put_edge)
        (subst (λ (xs : List TreeRow). AreTreeRows g nodes (edges ++ edge ∷ []) xs (done + 1)) (sym put_row) (rows_made node at e h))

  pub rows_done : (edges : List (Option LaunchEdge)) (rows : List TreeRow) (done : ℕ) → AreTreeRows g nodes edges rows done → done ≡ length nodes → IsClockTree g rows
  rows_done edges rows done had all = record {
    tree = had.tree;
    each = λ number place node p e.
        (let n = are.there number place p in
        let r = had.made place (below place number n) in
        record { row = r.0; at = r.1; told = (subst (λ (o : Option ℕ). IsRowAt g o r.0) n r.2) node e });
  }
    where
      below : (place number : ℕ) → slice_index_or nodes place None ≡ Some number → place < done
      below place number e = elim (cases_lt place (length nodes)) [
        | inl low ↦ omega (arith, low, all)
        | inr high ↦ let clash : None ≡ Some number = sym (get_or_past nodes place None high) ∙ e in absurd (cc)
      ]

-- the edge of a node is that of its parent, or of the clock port where it has none
module _ (g : Graphed) (s : Stored) (same : g.stored ≡ s) (num : IsNumbered s) (linked : IsLinked s.design) (is : IsGraph g)
    (edges : List (Option LaunchEdge)) (are : AreEdges g edges) (n : ℕ) (at : place_at g n ≡ Some (length edges)) where
  abbrev parent_is : ℕ → Type 0
  parent_is up = IsParent g is (subst (λ (z : Stored). IsNumbered z) (sym same) num) (subst (λ (z : Stored). IsLinked z.design) (sym same) linked) n (length edges) at up

  parent_there : (up : ℕ) → parent_place g n ≡ Some up → parent_is up
  parent_there up e =
      parent_of_place g is (subst (λ (z : Stored). IsNumbered z) (sym same) num) (subst (λ (z : Stored). IsLinked z.design) (sym same) linked) n (length edges) at up e

  pub parent_low : (up : ℕ) → Some up ≡ parent_place g n → up < length edges
  parent_low up e = (parent_there up (sym e)).low

  pub edge_of_parent : (up : ℕ) → Some up ≡ parent_place g n → (edge : Option LaunchEdge) → edge ≡ slice_index_or edges up None → IsEdgeAt g (Some n) edge
  edge_of_parent up e edge got = λ node its.
      (let p = parent_there up (sym e) in
      ap (option_map edge_of) got ∙ are.edge p.arc.from up p.node p.low p.placed p.its
      ∙ sym (edge_inherited g is (subst (λ (z : Stored). IsNumbered z) (sym same) num) (subst (λ (z : Stored). IsLinked z.design) (sym same) linked) n (length edges) at up p node its))

  pub edge_of_root : (edge : Option LaunchEdge) → option_map edge_of edge ≡ option_and_then (walk_edge s.design) (node_at s n) → IsEdgeAt g (Some n) edge
  edge_of_root edge h = λ node its.
      (h ∙ (λ k. option_and_then (walk_edge (sym same k).design) (node_at (sym same k) n)) ∙ ap (option_and_then (walk_edge g.stored.design)) its)

pub ruleset row_forms = (row_told)

-- an arc into a node leads from a number below the bound
pub arc_low : (g : Graphed) → IsGraph g → (node : ℕ) → node < node_bound g.stored → (arc : GraphArc) → Contains (fan_at g.ins node) arc → arc.from < node_bound g.stored
arc_low g is node low arc c = let a = ((is.ins node low).sound arc c).0 in number_low g.stored arc.from a.from a.from_number

pub first_arc_low : (g : Graphed) → IsGraph g → (node : ℕ) → node < node_bound g.stored → (arcs : List GraphArc) → arcs ≡ fan_at g.ins node → (d : GraphArc) → 1 ≤ length arcs
    → (get_or arcs 0 d).from < node_bound g.stored
first_arc_low g is node low [] e d some = absurd (omega (arith, some))
first_arc_low g is node low (arc ∷ arcs) e d some = arc_low g is node low arc (subst (λ (xs : List GraphArc). Contains xs arc) e (first_in arc arcs))

-- what holds of what is there
pub some_of : {X : Type 0} (o : Option X) (x : X) (P : X → Type 0) → o ≡ Some x → IfSome o P → P x
some_of {X = X} o x P e h = subst (λ (q : Option X). IfSome q P) e h

-- the nodes of places are numbers below the bound
pub nodes_low : (g : Graphed) → IsGraph g → (nodes : List (Option ℕ)) → ArePlaceNodes g nodes → (place : ℕ) (o : Option ℕ) → o ≡ slice_index_or nodes place None
    → IfSome o (λ n. n < node_bound g.stored)
nodes_low g is nodes are place None e = tt
nodes_low g is nodes are place (Some n) e = place_low g is n place (are.told place n (sym e))
