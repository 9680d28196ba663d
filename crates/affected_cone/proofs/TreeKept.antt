-- The clock tree of a base is that of the edited store where the ECO leaves the clock network and reaches none of its nodes.

use Rattle.std.proofs.Common.{◌≡◌, ℕ, zero, suc, ◌<◌, pos, Bool, true, false, List, [], ◌∷◌, length, Option, None, Some, refl, sym, ap, subst, ◌∙◌, inl, inr, arith}
use Rattle.std.specs.Prelude.{All, Result, Ok, Err, IfOk, Contains, ◌&&◌, ◌||◌, nat_eq, is_some, find, slice_index, option_and_then}
use Rattle.std.specs.List.{list_any}
use Rattle.std.specs.Option.{option_map_or}
use Rattle.std.specs.Cmp.Lexicographic.{pointwise}
use Rattle.std.proofs.lemmas.Bool.{cases_Bool, eq-eqb, eqb-true, or_right, and_parts, true≢false, false≢true}
use Rattle.std.proofs.lemmas.List.Elements.{All-cons, All-nil}
use Rattle.timing_defs.specs.declared.kinds.Split.{Split}
use Rattle.timing_defs.specs.declared.kinds.Split.TheVariants.{Early, Late}
use Rattle.timing_defs.specs.declared.kinds.Tran.{Tran}
use Rattle.timing_defs.specs.declared.design.Design.{Design}
use Rattle.timing_defs.specs.Netlist.{Node, name_of, same_tran, pins}
use Rattle.timing_rules.specs.Clocking.{is_network, is_clock_port}
use Rattle.timing_rules.specs.Rows.{arcs_in, arrival, is_clock_at}
use Rattle.timing_rules.specs.Tests.{first_edge, edge_of_port}
use Rattle.timing_defs.specs.Touches.{Touch}
use Rattle.timing_rules.specs.Cones.{has_register_arc}
use Rattle.timing_rules.specs.Paths.{Named, named, node_named}
use Rattle.timing_defs.proofs.Members.{some_is, none_in, first_in, any_in, any_back}
use Rattle.netlist_store.specs.Linked.{IsLinked}
use Rattle.netlist_store.specs.Numbering.{name_at, IsNumbered}
use Rattle.netlist_store.specs.Applying.{IsEditOf}
use Rattle.eco_laws.proofs.EditOf.{numbers_kept}
use Rattle.pin_graph.specs.declared.arcs.GraphArc.{GraphArc}
use Rattle.pin_graph.specs.Nodes.{node_at, node_bound, pin_under, tran_under}
use Rattle.pin_graph.specs.Graphs.{Graphed, IsGraph, IsArc, AreClockNodes, fan_at, place_at, of_node, kind_between}
use Rattle.pin_graph.proofs.NodeLaws.{under_number, tran_of_number, has_node, same_node_at, one_number}
use Rattle.pin_graph.proofs.GraphRows.{level}
use Rattle.node_tests.specs.Walks.{first_from}
use Rattle.calm_laws.proofs.Calm.{IsArcPair, IsCalm}
use Rattle.calm_laws.proofs.AlikeLaws.{own_same, name_same, edges_same, clock_port_same}
use Rattle.calm_laws.proofs.PairLaws.{pair_of}
use Rattle.calm_laws.proofs.ArcsKept.{arcs_kept}
use Rattle.calm_laws.proofs.InDesign.{one_node, from_within}
use Rattle.calm_laws.proofs.QuietNodes.{IsQuietNode, AreQuietNodes, told_node, arrival_same}
use Rattle.edit_reach.specs.Reach.{is_in, HasSeeds, AreBehind}
use Rattle.edit_reach.proofs.Beside.{stands_in}
use Rattle.edit_reach.proofs.QuietReach.{linked, linked2, quiet, quiet_of, quiet_nodes}
use Rattle.pessimism_credit.specs.declared.rows.TreeRow.{TreeRow}
use Rattle.path_search.specs.Runs.{IsTimed}
use Rattle.path_search.specs.Trees.{walk_edge, both_times, times_at, tree_times, parent_place, HasRow, IsClockTree}
use Rattle.path_search.proofs.Setting.{timed}
use Rattle.path_search.proofs.Prefixes.{later_port, from_one, walk_starts}
use Rattle.path_search.proofs.TreeLaws.{place_low, placed_node, edge_inherited}
use Rattle.affected_cone.specs.Updated.{is_placed, IsNetworkLeft}

told_some : {X : Type 0} (o : Option X) → is_some o ≡ true → (x : X) × (o ≡ Some x)
told_some None e = absurd (false≢true e)
told_some (Some x) e = (x, refl)

-- a node of the clock network, and the node before it
module _ (g : Graphed) (num : IsNumbered g.stored) (links : IsLinked g.stored.design) (is : IsGraph g) where
  times : IsTimed g.stored.design
  times = timed g num links is

  module _ (k p : ℕ) (at : place_at g k ≡ Some p) (node : Node) (its : node_at g.stored k ≡ Some node) where
    bound : k < node_bound g.stored
    bound = place_low g is k p at

    stands : Contains (pins g.stored.design) node.pin
    stands = (has_node g.stored num links k node its).has.within

    network : is_network g.stored.design node.pin ≡ true
    network =
        let n = placed_node g is num links k p at in
        ap (λ (m : Node). is_network g.stored.design m.pin) (same_node_at g.stored node n.0 k its n.1) ∙ n.2

    pub record IsFrom (arc : GraphArc) : Type 0 where
      pub from : Node
      pub told : node_at g.stored arc.from ≡ Some from
      pub joined : Contains (arcs_in g.stored.design node) from

    pub from_arc : (arc : GraphArc) → Contains (fan_at g.ins k) arc → IsFrom arc
    from_arc arc c =
        let a = (is.ins k bound).sound arc c in
        let same : a.0.to ≡ node = same_node_at g.stored a.0.to node k (ap (node_at g.stored) (sym a.1) ∙ a.0.to_number) its in
        record { from = a.0.from; told = a.0.from_number; joined = subst (λ (n : Node). Contains (arcs_in g.stored.design n) a.0.from) same a.0.within }

    -- at a clock's port
    port_alone : is_clock_port g.stored.design node.pin ≡ true → fan_at g.ins k ≡ []
    port_alone port = by (fan_at g.ins k) refl
      where
        by : (arcs : List GraphArc) → fan_at g.ins k ≡ arcs → fan_at g.ins k ≡ []
        by [] e = e
        by (arc ∷ arcs) e =
            let f = from_arc arc (subst (λ (xs : List GraphArc). Contains xs arc) (sym e) (first_in arc arcs)) in
            absurd (true≢false (sym port ∙ later_port g.stored.design times node f.from f.joined))

    pub port_parent : is_clock_port g.stored.design node.pin ≡ true → parent_place g k ≡ None
    port_parent port = ap (λ (xs : List GraphArc). option_and_then (place_at g) (first_from xs)) (port_alone port)

    pub port_edge : is_clock_port g.stored.design node.pin ≡ true → walk_edge g.stored.design node ≡ edge_of_port g.stored.design node
    port_edge port = ap (option_and_then (first_edge g.stored.design)) (walk_starts g.stored.design times node stands network port)

    -- an arc leads to any other from a node with a place
    pub record HasUp : Type 0 where
      pub arc : GraphArc
      pub within : Contains (fan_at g.ins k) arc
      pub up : ℕ
      pub placed : place_at g arc.from ≡ Some up

    pub up_there : is_clock_port g.stored.design node.pin ≡ false → HasUp
    up_there port =
        let both = and_parts (of_node g.stored (λ n. is_network g.stored.design n.pin) k)
        (of_node g.stored (λ n. is_clock_port g.stored.design n.pin) k || list_any (λ arc. is_some (place_at g arc.from)) (fan_at g.ins k))
        (sym (is.places.there k bound) ∙ ap is_some at) in
        let none : of_node g.stored (λ n. is_clock_port g.stored.design n.pin) k ≡ false =
        ap (λ (o : Option Node). option_map_or (λ (n : Node). is_clock_port g.stored.design n.pin) o false) its ∙ port in
        let some : list_any (λ arc. is_some (place_at g arc.from)) (fan_at g.ins k) ≡ true =
        sym (ap (λ (b : Bool). b || list_any (λ arc. is_some (place_at g arc.from)) (fan_at g.ins k)) none) ∙ both.1 in
        let r = any_back (λ (arc : GraphArc). is_some (place_at g arc.from)) (fan_at g.ins k) some in
        let u = told_some (place_at g r.item.from) r.passes in
        record { arc = r.item; within = r.within; up = u.0; placed = u.1 }

    module _ (arc : GraphArc) (c : Contains (fan_at g.ins k) arc) (up : ℕ) (placed : place_at g arc.from ≡ Some up) (from : Node) (told : node_at g.stored arc.from ≡ Some from) where
      joined : (to : Node) → node_at g.stored k ≡ Some to → Contains (arcs_in g.stored.design to) from
      joined to h =
          let f = from_arc arc c in
          let same : f.from ≡ from = same_node_at g.stored f.from from arc.from f.told told in
          subst (λ (n : Node). Contains (arcs_in g.stored.design n) from) (same_node_at g.stored node to k its h)
          (subst (λ (n : Node). Contains (arcs_in g.stored.design node) n) same f.joined)

      -- its walk starts on the edge of that node's
      pub edge_behind : walk_edge g.stored.design node ≡ walk_edge g.stored.design from
      edge_behind = edge_inherited g is num links k p at up
          (record {
            arc = arc;
            within = c;
            placed = placed;
            low = is.places.rising k up p arc bound c placed at;
            node = from;
            its = told;
            joined = joined;
          }) node its

      one_from : (other : GraphArc) → Contains (fan_at g.ins k) other → other.from ≡ arc.from
      one_from other d =
          let f = from_arc other d in
          let same : f.from ≡ from = from_one g.stored.design times node from stands network (joined node its) f.from f.joined in
          one_number g.stored num links other.from arc.from from (has_node g.stored num links other.from from (f.told ∙ ap Some same)) (has_node g.stored num links arc.from from told)

      pub parent_behind : parent_place g k ≡ Some up
      parent_behind = by (fan_at g.ins k) refl
        where
          by : (arcs : List GraphArc) → fan_at g.ins k ≡ arcs → parent_place g k ≡ Some up
          by [] e = absurd (none_in arc (subst (λ (xs : List GraphArc). Contains xs arc) e c))
          by (a ∷ arcs) e =
              ap (λ (xs : List GraphArc). option_and_then (place_at g) (first_from xs)) e
              ∙ ap (place_at g) (one_from a (subst (λ (xs : List GraphArc). Contains xs a) (sym e) (first_in a arcs))) ∙ placed

module _ (g g2 : Graphed) (touch : Touch) (made : IsEditOf g.stored touch g2.stored) (num : IsNumbered g.stored) (num2 : IsNumbered g2.stored) (is : IsGraph g) (is2 : IsGraph g2)
    (seeds found : List ℕ) (all : HasSeeds g.stored g2.stored touch seeds) (behind : AreBehind g2 seeds found)
    (same : (k p : ℕ) → place_at g2 k ≡ Some p → place_at g k ≡ Some p) (off : (k p : ℕ) → place_at g2 k ≡ Some p → is_in found k ≡ false) where
  abbrev d : Design
  d = g.stored.design

  abbrev d2 : Design
  d2 = g2.stored.design

  abbrev links : IsLinked g.stored.design
  links = linked g g2 touch made num num2 is is2 seeds found all behind

  abbrev links2 : IsLinked g2.stored.design
  links2 = linked2 g g2 touch made num num2 is is2 seeds found all behind

  abbrev calms : Named → Bool
  calms = quiet g g2 touch made num num2 is is2 seeds found all behind

  abbrev quiets : AreQuietNodes d d2 (level g num links is) (level g2 num2 links2 is2) calms
  quiets = quiet_nodes g g2 touch made num num2 is is2 seeds found all behind

  -- the nodes of a number have one name
  one_name : (k : ℕ) (a b : Node) → node_at g.stored k ≡ Some a → node_at g2.stored k ≡ Some b → named a ≡ named b
  one_name k a b e f =
      let h = has_node g.stored num links k a e in
      let i = has_node g2.stored num2 links2 k b f in
      let pin : pin_under k ≡ h.pin = ap pin_under h.number ∙ under_number h.pin a.tran in
      let pin2 : pin_under k ≡ i.pin = ap pin_under i.number ∙ under_number i.pin b.tran in
      let tran : tran_under k ≡ a.tran = ap tran_under h.number ∙ tran_of_number h.pin a.tran in
      let tran2 : tran_under k ≡ b.tran = ap tran_under i.number ∙ tran_of_number i.pin b.tran in
      let name : name_of a.pin ≡ name_of b.pin =
      (numbers_kept g.stored touch g2.stored made).pins.names (pin_under k) (name_of a.pin) (name_of b.pin)
      (ap (name_at g.stored.pins) pin ∙ h.has.name) (ap (name_at g2.stored.pins) pin2 ∙ i.has.name) in
      λ j. (name j, (sym tran ∙ tran2) j)

  module _ (k p : ℕ) (at : place_at g2 k ≡ Some p) where
    old : (node : Node) × (node_at g.stored k ≡ Some node) × (is_network d node.pin ≡ true)
    old = placed_node g is num links k p (same k p at)

    new : (node : Node) × (node_at g2.stored k ≡ Some node) × (is_network d2 node.pin ≡ true)
    new = placed_node g2 is2 num2 links2 k p at

    still : calms (named new.0) ≡ true
    still = quiet_of g g2 touch made num num2 is is2 seeds found all behind new.0 k (has_node g2.stored num2 links2 k new.0 new.1) (off k p at)

    abbrev kept : IsQuietNode d d2 calms (named new.0)
    kept = quiets.nodes (named new.0) still

    before_is : kept.before ≡ old.0
    before_is =
        some_is (sym kept.told ∙ sym (ap (node_named d) (one_name k old.0 new.0 old.1 new.1))
        ∙ told_node d links old.0 (has_node g.stored num links k old.0 old.1).has.within)

    after_is : kept.after ≡ new.0
    after_is = some_is (sym kept.told2 ∙ told_node d2 links2 new.0 (has_node g2.stored num2 links2 k new.0 new.1).has.within)

    calm : IsCalm d d2 old.0 new.0
    calm = subst (λ (x : Node). IsCalm d d2 x new.0) before_is (subst (λ (x : Node). IsCalm d d2 kept.before x) after_is kept.calm)

    arrives : (split : Split) (edge : ℕ × Tran) → arrival d2 split new.0 edge ≡ arrival d split old.0 edge
    arrives split edge =
        sym (ap (λ (x : Node). arrival d2 split x edge) after_is)
        ∙ arrival_same d d2 (level g num links is) (level g2 num2 links2 is2) calms quiets (named new.0) still split edge
        ∙ ap (λ (x : Node). arrival d split x edge) before_is

    ports : is_clock_port d old.0.pin ≡ is_clock_port d2 new.0.pin
    ports = clock_port_same d d2 calm.framed old.0 new.0 calm.kept.alike

    port_edges : edge_of_port d2 new.0 ≡ edge_of_port d old.0
    port_edges = λ j.
        find (λ edge. is_clock_at (calm.framed.constraints j).clocks edge.0 (sym (own_same old.0 new.0 calm.kept.alike) j) && same_tran edge.1 (calm.kept.alike.tran j))
        (sym (edges_same d d2 calm.framed) j)

  -- the base has the arc from a node with a place too
  record HasOld (k m : ℕ) : Type 0 where
    arc : GraphArc
    within : Contains (fan_at g.ins k) arc
    from : arc.from ≡ m

  old_arc : (k p : ℕ) → place_at g2 k ≡ Some p → (arc : GraphArc) → Contains (fan_at g2.ins k) arc → (up : ℕ) → place_at g2 arc.from ≡ Some up → HasOld k arc.from
  old_arc k p at arc c up placed =
      let was = old k p at in
      let now = new k p at in
      let it = old arc.from up placed in
      let f = from_arc g2 num2 links2 is2 k p at now.0 now.1 arc c in
      let r = pair_of (IsArcPair d d2 was.0 now.0) (arcs_in d was.0) (arcs_in d2 now.0) (arcs_kept d d2 was.0 now.0 (calm k p at)) f.from f.joined in
      let name : named r.0 ≡ named it.0 =
      (λ j. (name_same r.0 f.from r.1.1.alike j, sym r.1.1.alike.tran j)) ∙ sym (one_name arc.from it.0 f.from it.1 f.told) in
      let stands_was : Contains (pins d) was.0.pin = (has_node g.stored num links k was.0 was.1).has.within in
      let stands_it : Contains (pins d) it.0.pin = (has_node g.stored num links arc.from it.0 it.1).has.within in
      let is_it : r.0 ≡ it.0 =
      one_node d links r.0 it.0 (from_within d links was.0 stands_was r.0 r.1.0) stands_it (ap (λ (n : Named). n.0) name) (ap (λ (n : Named). n.1) name) in
      let a : GraphArc = record { from = arc.from; to = k; kind = kind_between d it.0 was.0; edge = has_register_arc d it.0 was.0 } in
      let a_is : IsArc g.stored a = record {
        from = it.0;
        from_number = it.1;
        to = was.0;
        to_number = was.1;
        within = subst (λ (n : Node). Contains (arcs_in d was.0) n) is_it r.1.0;
        kind = refl;
        edge = refl;
      } in
      record { arc = a; within = (is.ins k (place_low g is k p (same k p at))).all a a_is refl; from = refl }

  -- by places: the fuel is above the node's
  edges_within : (fuel k p : ℕ) (at : place_at g2 k ≡ Some p) → p < fuel → walk_edge d2 (new k p at).0 ≡ walk_edge d (old k p at).0
  edges_within zero k p at low = absurd (omega (arith, low))
  edges_within (suc fuel) k p at low = elim (cases_Bool (is_clock_port d2 (new k p at).0.pin)) [
    | inl port ↦
        port_edge g2 num2 links2 is2 k p at (new k p at).0 (new k p at).1 port
        ∙ port_edges k p at
        ∙ sym (port_edge g num links is k p (same k p at) (old k p at).0 (old k p at).1 (ports k p at ∙ port))
    | inr port ↦
        let u = up_there g2 num2 links2 is2 k p at (new k p at).0 (new k p at).1 port in
        let o = old_arc k p at u.arc u.within u.up u.placed in
        let less : u.up < p = is2.places.rising k u.up p u.arc (place_low g2 is2 k p at) u.within u.placed at in
        edge_behind g2 num2 links2 is2 k p at (new k p at).0 (new k p at).1 u.arc u.within u.up u.placed (new u.arc.from u.up u.placed).0 (new u.arc.from u.up u.placed).1
        ∙ edges_within fuel u.arc.from u.up u.placed (omega (arith, less, low))
        ∙ sym (edge_behind g num links is k p (same k p at) (old k p at).0 (old k p at).1 o.arc o.within u.up (ap (place_at g) o.from ∙ same u.arc.from u.up u.placed)
        (old u.arc.from u.up u.placed).0 (ap (node_at g.stored) o.from ∙ (old u.arc.from u.up u.placed).1))
  ]

  parents : (k p : ℕ) → place_at g2 k ≡ Some p → parent_place g k ≡ parent_place g2 k
  parents k p at = elim (cases_Bool (is_clock_port d2 (new k p at).0.pin)) [
    | inl port ↦
        port_parent g num links is k p (same k p at) (old k p at).0 (old k p at).1 (ports k p at ∙ port)
        ∙ sym (port_parent g2 num2 links2 is2 k p at (new k p at).0 (new k p at).1 port)
    | inr port ↦
        let u = up_there g2 num2 links2 is2 k p at (new k p at).0 (new k p at).1 port in
        let o = old_arc k p at u.arc u.within u.up u.placed in
        parent_behind g num links is k p (same k p at) (old k p at).0 (old k p at).1 o.arc o.within u.up (ap (place_at g) o.from ∙ same u.arc.from u.up u.placed)
        (old u.arc.from u.up u.placed).0 (ap (node_at g.stored) o.from ∙ (old u.arc.from u.up u.placed).1)
        ∙ sym (parent_behind g2 num2 links2 is2 k p at (new k p at).0 (new k p at).1 u.arc u.within u.up u.placed (new u.arc.from u.up u.placed).0 (new u.arc.from u.up u.placed).1)
  ]

  times_kept : (k p : ℕ) (at : place_at g2 k ≡ Some p) → tree_times d (old k p at).0 ≡ tree_times d2 (new k p at).0
  times_kept k p at =
      by (walk_edge d (old k p at).0)
      ∙ ap (λ (o : Option (ℕ × Tran)). option_map_or (times_at d2 (new k p at).0) o (pos 0, pos 0)) (sym (edges_within (suc p) k p at (omega arith)))
    where
      by : (o : Option (ℕ × Tran)) → option_map_or (times_at d (old k p at).0) o (pos 0, pos 0) ≡ option_map_or (times_at d2 (new k p at).0) o (pos 0, pos 0)
      by None = refl
      by (Some edge) = λ j. both_times (sym (arrives k p at Early edge) j) (sym (arrives k p at Late edge) j)

  row_kept : (rows : List TreeRow) → IsClockTree g rows → (k p : ℕ) (node : Node) → place_at g2 k ≡ Some p → node_at g2.stored k ≡ Some node → HasRow g2 rows k p node
  row_kept rows are k p node at told =
      let row = are.each k p (old k p at).0 (same k p at) (old k p at).1 in
      let its : (new k p at).0 ≡ node = same_node_at g2.stored (new k p at).0 node k (new k p at).1 told in
      record {
        row = row.row;
        at = row.at;
        told = record { parent = row.told.parent ∙ parents k p at; times = row.told.times ∙ times_kept k p at ∙ ap (tree_times d2) its };
      }

  pub tree_kept : (rows : List TreeRow) → IsClockTree g rows → IsClockTree g2 rows
  tree_kept rows are = record { tree = are.tree; each = row_kept rows are }

-- as the calls have it
pub tree_left : (g g2 : Graphed) (touch : Touch) → IsEditOf g.stored touch g2.stored → IsNumbered g.stored → IsNumbered g2.stored → IsGraph g → IsGraph g2
    → (seeds found : List ℕ) → HasSeeds g.stored g2.stored touch seeds → AreBehind g2 seeds found → IsNetworkLeft g g2 found
    → (rows : List TreeRow) → IsClockTree g rows → IsClockTree g2 rows
tree_left g g2 touch made num num2 is is2 seeds found all behind left rows are = tree_kept g g2 touch made num num2 is is2 seeds found all behind left.places off rows are
  where
    off : (k p : ℕ) → place_at g2 k ≡ Some p → is_in found k ≡ false
    off k p at = elim (cases_Bool (is_in found k)) [
      | inl e ↦ absurd (true≢false (sym (any_in (is_placed g2) found k (stands_in found k e) (ap is_some at)) ∙ left.off))
      | inr e ↦ e
    ]

pub same_ok : {E : Type 0} (P : List TreeRow → Type 0) (r : Result (List TreeRow) E) (rows : List TreeRow) → P rows → IfOk r (λ held. held ≡ rows) → IfOk r P
same_ok P (Ok held) rows is e = subst P (sym e) is
same_ok P (Err fault) rows is e = tt

-- two graphs with the same list of clock nodes
pub places_left : (g g2 : Graphed) (nodes nodes2 : List ℕ) → AreClockNodes g nodes → AreClockNodes g2 nodes2 → nodes ≡ nodes2
    → (k p : ℕ) → place_at g2 k ≡ Some p → place_at g k ≡ Some p
places_left g g2 nodes nodes2 are are2 e k p at =
    let there = are2.there k p at in
    let told = are.told p (subst (λ (xs : List ℕ). p < length xs) (sym e) there.0) in
    ap (place_at g) (sym (ap (λ (xs : List ℕ). slice_index xs p) e ∙ there.1)) ∙ told.1

pub numbers_same : (xs ys : List ℕ) → pointwise nat_eq xs ys ≡ true → xs ≡ ys
numbers_same [] [] e = refl
numbers_same [] (y ∷ ys) e = absurd (false≢true e)
numbers_same (x ∷ xs) [] e = absurd (false≢true e)
numbers_same (x ∷ xs) (y ∷ ys) e =
    let parts = and_parts (nat_eq x y) (pointwise nat_eq xs ys) e in
    λ k. eqb-true x y parts.0 k ∷ numbers_same xs ys parts.1 k

-- the nodes behind seeds are below the bound
pub all_below : (b : ℕ) (xs : List ℕ) → ((n : ℕ) → is_in xs n ≡ true → n < b) → All (λ n. n < b) xs
all_below b [] each = All-nil (λ n. n < b)
all_below b (x ∷ xs) each =
    All-cons (λ n. n < b) x xs (each x (ap (λ (t : Bool). t || is_in xs x) (eq-eqb x x refl)))
    (all_below b xs (λ n c. each n (or_right (nat_eq n x) (is_in xs n) c)))
