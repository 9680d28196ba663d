-- Nodes that an edit leaves with all that leads to them have the same rows in both designs, and the same delays along the arcs into them.

use Rattle.std.proofs.Common.{◌≡◌, ℕ, zero, suc, ◌<◌, ◌≤◌, ℤ, pos, ◌-ℤ◌, Bool, true, false, List, [], ◌∷◌, Option, None, Some, refl, sym, ap, subst, ◌∙◌, inl, inr, arith}
use Rattle.std.specs.Prelude.{Contains, find, ◌&&◌, option_map, option_and_then, if◌then◌else◌}
use Rattle.std.specs.List.{list_any}
use Rattle.std.specs.Option.{option_map_or}
use Rattle.std.specs.Str.{bytes_eq}
use Rattle.std.proofs.lemmas.Bool.{cases_Bool, and_parts, and_from, false≢true}
use Rattle.timing_defs.specs.declared.kinds.Split.{Split}
use Rattle.timing_defs.specs.declared.kinds.Split.TheVariants.{Early, Late}
use Rattle.timing_defs.specs.declared.kinds.Tran.{Tran}
use Rattle.timing_defs.specs.declared.netlist.Inst.{Inst}
use Rattle.timing_defs.specs.declared.rows.NodeRow.{NodeRow}
use Rattle.timing_defs.specs.declared.design.Design.{Design}
use Rattle.timing_defs.specs.Netlist.{Pin, Node, name_of, same_pin, same_tran, same_node, pins, pin_named}
use Rattle.timing_defs.specs.Wires.{first_some}
use Rattle.timing_rules.specs.Clocking.{is_network}
use Rattle.timing_rules.specs.Rows.{arcs_in, row, step, start_at, launch_edges, delay_from, delay, arrival}
use Rattle.timing_defs.specs.RowTimes.{slew_in, times_in, time_on}
use Rattle.timing_rules.specs.Paths.{Named, named, node_named, arc_delay, delay_between, start_of, is_network_named, owner_named, spread_at}
use Rattle.timing_rules.proofs.RowLaws.{ArePlacedNodes, row_is}
use Rattle.timing_defs.proofs.SameNames.{same_is, same_self}
use Rattle.timing_defs.proofs.Members.{some_is, any_in, any_back, found_in, found_passes, found_by}
use Rattle.store_pins.proofs.PinNames.{pins_apart}
use Rattle.netlist_store.specs.Linked.{IsLinked}
use Rattle.netlist_store.proofs.Untouched.{IsFramed}
use Rattle.netlist_store.proofs.SeenPins.{Seen, seen, seen_owner}
use Rattle.calm_laws.specs.Pairs.{ArePairs}
use Rattle.calm_laws.specs.Quiet.{AreQuiet}
use Rattle.calm_laws.proofs.Calm.{AreAlike, IsArcPair, IsCalm}
use Rattle.calm_laws.proofs.PairLaws.{pair_of, pair_from}
use Rattle.calm_laws.proofs.AlikeLaws.{name_same, owner_same, edges_same, start_same}
use Rattle.calm_laws.proofs.CellNodes.{tran_is}
use Rattle.calm_laws.proofs.ArcsKept.{arcs_kept}
use Rattle.calm_laws.proofs.CalmStep.{calm_step, delay_kept}
use Rattle.calm_laws.proofs.InDesign.{self_tran, one_node, from_within}

-- a node by its name in both designs: calm, and with such nodes before it
pub record IsQuietNode (d d2 : Design) (quiet : Named → Bool) (n : Named) : Type 0 where
  pub before : Node
  pub after : Node
  pub told : node_named d n ≡ Some before
  pub told2 : node_named d2 n ≡ Some after
  pub calm : IsCalm d d2 before after
  pub closed : (from : Node) → Contains (arcs_in d2 after) from → quiet (named from) ≡ true

abbrev pub Stands : Design → Node → Type 0
Stands d n = Contains (pins d) n.pin

-- two linked designs without loops, and a test of nodes that passes such ones alone
pub record AreQuietNodes (d d2 : Design) (place place2 : Node → ℕ) (quiet : Named → Bool) : Type 0 where
  pub linked : IsLinked d
  pub linked2 : IsLinked d2
  pub framed : IsFramed d d2
  pub placed : ArePlacedNodes d (Stands d) place
  pub placed2 : ArePlacedNodes d2 (Stands d2) place2
  pub nodes : (n : Named) → quiet n ≡ true → IsQuietNode d d2 quiet n

-- a node by its name
pub named_in : (d : Design) (n : Named) (a : Node) → node_named d n ≡ Some a → Contains (pins d) a.pin × ((name_of a.pin ≡ n.0) × (a.tran ≡ n.1))
named_in d n a e = by (pin_named d n.0) refl e
  where
    by : (o : Option Pin) → pin_named d n.0 ≡ o → option_map (λ (pin : Pin). record { pin = pin; tran = n.1 }) o ≡ Some a → Contains (pins d) a.pin × ((name_of a.pin ≡ n.0) × (a.tran ≡ n.1))
    by None f h = absurd (cc)
    by (Some p) f h =
        let same : record { pin = p; tran = n.1 } ≡ a = some_is h in
        let pin : p ≡ a.pin = ap (λ (x : Node). x.pin) same in (
          subst (λ (q : Pin). Contains (pins d) q) pin (found_in (λ (q : Pin). bytes_eq (name_of q) n.0) (pins d) p f),
          (
            ap name_of (sym pin) ∙ same_is (name_of p) n.0 (found_passes (λ (q : Pin). bytes_eq (name_of q) n.0) (pins d) p f),
            sym (ap (λ (x : Node). x.tran) same),
          ),
        )

module _ (d d2 : Design) (place place2 : Node → ℕ) (quiet : Named → Bool) (are : AreQuietNodes d d2 place place2 quiet) where
  module _ (n : Named) (q : quiet n ≡ true) where
    abbrev at : IsQuietNode d d2 quiet n
    at = are.nodes n q

    pub before_in : Stands d at.before
    before_in = (named_in d n at.before at.told).0

    pub after_in : Stands d2 at.after
    after_in = (named_in d2 n at.after at.told2).0

  -- the nodes of a pair of arcs into such a node
  module _ (n : Named) (q : quiet n ≡ true) (from from2 : Node) (pair : IsArcPair d d2 (at n q).before (at n q).after from from2) where
    pub pair_quiet : quiet (named from2) ≡ true
    pair_quiet = (at n q).closed from2 pair.after

    pair_named : named from ≡ named from2
    pair_named = λ k. (name_same from from2 pair.alike k, sym pair.alike.tran k)

    pub from_is : (at (named from2) pair_quiet).before ≡ from
    from_is =
        let it = named_in d (named from2) (at (named from2) pair_quiet).before (at (named from2) pair_quiet).told in
        one_node d are.linked (at (named from2) pair_quiet).before from it.0 (from_within d are.linked (at n q).before (before_in n q) from pair.before)
        (it.1.0 ∙ sym (name_same from from2 pair.alike)) (it.1.1 ∙ pair.alike.tran)

    pub from2_is : (at (named from2) pair_quiet).after ≡ from2
    from2_is =
        let it = named_in d2 (named from2) (at (named from2) pair_quiet).after (at (named from2) pair_quiet).told2 in
        one_node d2 are.linked2 (at (named from2) pair_quiet).after from2 it.0 (from_within d2 are.linked2 (at n q).after (after_in n q) from2 pair.after) it.1.0 it.1.1

  -- rows
  rows_within : (k : ℕ) (n : Named) (q : quiet n ≡ true) → place (at n q).before < k → row d (at n q).before ≡ row d2 (at n q).after
  rows_within zero n q low = absurd (omega (arith, low))
  rows_within (suc k) n q low =
      row_is d (Stands d) place are.placed (at n q).before (before_in n q)
      ∙ calm_step d d2 (at n q).before (at n q).after (at n q).calm (row d) (row d2)
      (λ from from2 pair.
      let up = are.placed.rising (at n q).before (before_in n q) from pair.before in
      let is = from_is n q from from2 pair in
      let under : place (at (named from2) (pair_quiet n q from from2 pair)).before < k = subst (λ (x : Node). place x < k) (sym is) (omega (arith, up, low)) in
      ap (row d) (sym is) ∙ rows_within k (named from2) (pair_quiet n q from from2 pair) under ∙ ap (row d2) (from2_is n q from from2 pair))
      ∙ sym (row_is d2 (Stands d2) place2 are.placed2 (at n q).after (after_in n q))

  pub rows_same : (n : Named) (q : quiet n ≡ true) → row d (at n q).before ≡ row d2 (at n q).after
  rows_same n q = rows_within (suc (place (at n q).before)) n q (omega arith)

-- arcs between nodes by their names, in a linked design
module _ (e : Design) (linked : IsLinked e) where
  pub told_node : (a : Node) → Stands e a → node_named e (named a) ≡ Some a
  told_node a there = ap (option_map (λ (pin : Pin). record { pin = pin; tran = a.tran })) (found_by name_of (pins e) a.pin (pins_apart e linked) there)

  module _ (split : Split) (n : Named) (a : Node) (told : node_named e n ≡ Some a) (m : Named) where
    abbrev from_named : Option Node → Option ℤ
    from_named o = option_and_then (λ (x : Node). option_and_then (arc_delay e split x) (node_named e n)) o

    pub arc_there : (from : Node) → Stands e from → Contains (arcs_in e a) from → named from ≡ m → delay_between e split m n ≡ delay e split from a
    arc_there from there c is =
        ap from_named (sym (ap (node_named e) is) ∙ told_node from there)
        ∙ ap (option_and_then (arc_delay e split from)) told
        ∙ ap (λ b. if b then delay e split from a else None)
        (any_in (same_node from) (arcs_in e a) from c (and_from (same_pin from.pin from.pin) (same_tran from.tran from.tran) (same_self (name_of from.pin)) (self_tran from.tran)))

    pub arc_absent : ((from : Node) → Contains (arcs_in e a) from → named from ≡ m → ⊥) → delay_between e split m n ≡ None
    arc_absent never = by (node_named e m) refl
      where
        by : (o : Option Node) → node_named e m ≡ o → from_named o ≡ None
        by None f = refl
        by (Some x) f = ap (option_and_then (arc_delay e split x)) told ∙ elim (cases_Bool (list_any (same_node x) (arcs_in e a))) [
          | inl h ↦
              let r = any_back (same_node x) (arcs_in e a) h in
              let parts = and_parts (same_pin x.pin r.item.pin) (same_tran x.tran r.item.tran) r.passes in
              let it = named_in e m x f in
              let name : name_of r.item.pin ≡ m.0 = sym (same_is (name_of x.pin) (name_of r.item.pin) parts.0) ∙ it.1.0 in
              let tran : r.item.tran ≡ m.1 = sym (tran_is x.tran r.item.tran parts.1) ∙ it.1.1 in
              absurd (never r.item r.within (λ k. (name k, tran k)))
          | inr h ↦ rw h refl
        ]

abbrev is_from : Named → Node → Bool
is_from m from = bytes_eq (name_of from.pin) m.0 && same_tran from.tran m.1

from_named_is : (m : Named) (from : Node) → is_from m from ≡ true → named from ≡ m
from_named_is m from h =
    let parts = and_parts (bytes_eq (name_of from.pin) m.0) (same_tran from.tran m.1) h in
    λ k. (same_is (name_of from.pin) m.0 parts.0 k, tran_is from.tran m.1 parts.1 k)

is_from_named : (m : Named) (from : Node) → named from ≡ m → is_from m from ≡ true
is_from_named m from e =
    and_from (bytes_eq (name_of from.pin) m.0) (same_tran from.tran m.1)
    (ap (bytes_eq (name_of from.pin)) (sym (ap (λ (x : Named). x.0) e)) ∙ same_self (name_of from.pin))
    (ap (same_tran from.tran) (sym (ap (λ (x : Named). x.1) e)) ∙ self_tran from.tran)

module _ (d d2 : Design) (place place2 : Node → ℕ) (quiet : Named → Bool) (are : AreQuietNodes d d2 place place2 quiet) where
  module _ (split : Split) (m n : Named) (q : quiet n ≡ true) where
    abbrev a : Node
    a = (are.nodes n q).before

    abbrev b : Node
    b = (are.nodes n q).after

    pairs : ArePairs (IsArcPair d d2 a b) (arcs_in d a) (arcs_in d2 b)
    pairs = arcs_kept d d2 a b (are.nodes n q).calm

    record IsJoined : Type 0 where
      same : delay_between d2 split m n ≡ delay_between d split m n
      from : (x : ℤ) → delay_between d split m n ≡ Some x → quiet m ≡ true

    joined_by : (from : Node) → Contains (arcs_in d a) from → named from ≡ m → IsJoined
    joined_by from c is =
        let p = pair_from (IsArcPair d d2 a b) (arcs_in d a) (arcs_in d2 b) pairs from c in
        let from2 = p.0 in
        let pair = p.1.1 in
        let named2 : named from2 ≡ m = (λ k. (sym (name_same from from2 pair.alike) k, pair.alike.tran k)) ∙ is in
        let rows : row d from ≡ row d2 from2 =
        ap (row d) (sym (from_is d d2 place place2 quiet are n q from from2 pair))
        ∙ rows_same d d2 place place2 quiet are (named from2) (pair_quiet d d2 place place2 quiet are n q from from2 pair)
        ∙ ap (row d2) (from2_is d d2 place place2 quiet are n q from from2 pair) in
        record {
          same =
              arc_there d2 are.linked2 split n b (are.nodes n q).told2 m from2 (from_within d2 are.linked2 b (after_in d d2 place place2 quiet are n q) from2 pair.after) pair.after named2
              ∙ sym (delay_kept d d2 a b (are.nodes n q).calm from from2 pair split (row d from) (row d2 from2) (ap (slew_in split) rows))
              ∙ sym (arc_there d are.linked split n a (are.nodes n q).told m from (from_within d are.linked a (before_in d d2 place place2 quiet are n q) from pair.before) pair.before is);
          from = λ x e. sym (ap quiet named2) ∙ pair_quiet d d2 place place2 quiet are n q from from2 pair;
        }

    not_joined : list_any (is_from m) (arcs_in d a) ≡ false → IsJoined
    not_joined h = record {
      same = arc_absent d2 are.linked2 split n b (are.nodes n q).told2 m after ∙ sym (arc_absent d are.linked split n a (are.nodes n q).told m before);
      from = λ x e. let bad : None ≡ Some x = sym (arc_absent d are.linked split n a (are.nodes n q).told m before) ∙ e in absurd (cc);
    }
      where
        before : (from : Node) → Contains (arcs_in d a) from → named from ≡ m → ⊥
        before from c is = false≢true (sym h ∙ any_in (is_from m) (arcs_in d a) from c (is_from_named m from is))

        after : (from2 : Node) → Contains (arcs_in d2 b) from2 → named from2 ≡ m → ⊥
        after from2 c is =
            let p = pair_of (IsArcPair d d2 a b) (arcs_in d a) (arcs_in d2 b) pairs from2 c in
            before p.0 p.1.0 ((λ k. (name_same p.0 from2 p.1.1.alike k, sym p.1.1.alike.tran k)) ∙ is)

    joined : IsJoined
    joined = elim (cases_Bool (list_any (is_from m) (arcs_in d a))) [
      | inl h ↦ let r = any_back (is_from m) (arcs_in d a) h in joined_by r.item r.within (from_named_is m r.item r.passes)
      | inr h ↦ not_joined h
    ]

owner_by : (o o2 : Option Inst) → seen_owner o2 ≡ seen_owner o → option_map (λ (inst : Inst). inst.name) o2 ≡ option_map (λ (inst : Inst). inst.name) o
owner_by None None same = refl
owner_by None (Some j) same = absurd (cc)
owner_by (Some i) None same = absurd (cc)
owner_by (Some i) (Some j) same = ap (option_map (λ (p : List ℕ × List ℕ). p.0)) same

pin_told : (d : Design) (n : Named) (a : Node) → node_named d n ≡ Some a → pin_named d n.0 ≡ Some a.pin
pin_told d n a e = by (pin_named d n.0) e
  where
    by : (o : Option Pin) → option_map (λ (pin : Pin). record { pin = pin; tran = n.1 }) o ≡ Some a → o ≡ Some a.pin
    by None h = absurd (cc)
    by (Some p) h = ap Some (ap (λ (x : Node). x.pin) (some_is h))

module _ (d d2 : Design) (place place2 : Node → ℕ) (quiet : Named → Bool) (are : AreQuietNodes d d2 place place2 quiet) where
  module _ (n : Named) (q : quiet n ≡ true) where
    abbrev x : Node
    x = (are.nodes n q).before

    abbrev y : Node
    y = (are.nodes n q).after

    abbrev said : IsCalm d d2 x y
    said = (are.nodes n q).calm

    starts_same : (split : Split) → start_of d2 split n ≡ start_of d split n
    starts_same split =
        ap (option_and_then (λ (node : Node). first_some (λ edge. option_map (λ time. (edge, time)) (start_at d2 split node edge)) (launch_edges d2))) (are.nodes n q).told2
        ∙ sym (λ k. first_some (λ edge. option_map (λ time. (edge, time)) (start_same d d2 are.framed x y said.kept.alike split edge k)) (edges_same d d2 are.framed k))
        ∙ sym (ap (option_and_then (λ (node : Node). first_some (λ edge. option_map (λ time. (edge, time)) (start_at d split node edge)) (launch_edges d))) (are.nodes n q).told)

    network_same : is_network_named d2 n ≡ is_network_named d n
    network_same =
        ap (λ o. option_map_or (λ (node : Node). is_network d2 node.pin) o false) (are.nodes n q).told2
        ∙ said.network
        ∙ sym (ap (λ o. option_map_or (λ (node : Node). is_network d node.pin) o false) (are.nodes n q).told)

    owners_same : owner_named d2 n.0 ≡ owner_named d n.0
    owners_same =
        ap (option_and_then (λ (pin : Pin). option_map (λ (inst : Inst). inst.name) pin.owner)) (pin_told d2 n y (are.nodes n q).told2)
        ∙ owner_by x.pin.owner y.pin.owner (owner_same x y said.kept.alike)
        ∙ sym (ap (option_and_then (λ (pin : Pin). option_map (λ (inst : Inst). inst.name) pin.owner)) (pin_told d n x (are.nodes n q).told))

    pub arrival_same : (split : Split) (edge : ℕ × Tran) → arrival d2 split y edge ≡ arrival d split x edge
    arrival_same split edge = ap (λ (r : NodeRow). time_on (times_in split r) edge) (sym (rows_same d d2 place place2 quiet are n q))

    spread_of : Option ℤ → Option ℤ → ℤ
    spread_of late early = option_map_or (λ l. option_map_or (λ e. l -ℤ e) early (pos 0)) late (pos 0)

    spreads_same : (edge : ℕ × Tran) → spread_at d2 edge n ≡ spread_at d edge n
    unfolding spread_of
    spreads_same edge =
        ap (λ o. option_map_or (λ (node : Node). spread_of (arrival d2 Late node edge) (arrival d2 Early node edge)) o (pos 0)) (are.nodes n q).told2
        ∙ (λ k. spread_of (arrival_same Late edge k) (arrival_same Early edge k))
        ∙ sym (ap (λ o. option_map_or (λ (node : Node). spread_of (arrival d Late node edge) (arrival d Early node edge)) o (pos 0)) (are.nodes n q).told)

  -- all that the slack of a path to such a node is made of
  pub quiet_all : AreQuiet d d2 quiet
  quiet_all = record {
    constraints = are.framed.constraints;
    delays = λ split from to q. (joined d d2 place place2 quiet are split from to q).same;
    closed = λ split from to v q e. (joined d d2 place place2 quiet are split from to q).from v e;
    starts = λ split n q. starts_same n q split;
    network = λ n q. network_same n q;
    owners = λ n q. owners_same n q;
    spreads = λ edge n q. spreads_same n q edge;
  }
