-- A step into a node that is no seed is one in both designs, along one arc of the edited graph.

use Rattle.std.proofs.Common.{◌≡◌, ℕ, ℤ, Bool, true, false, List, Option, None, Some, refl, sym, ap, subst, ◌∙◌}
use Rattle.std.specs.Prelude.{Contains, find, ◌&&◌, nat_eq, option_map, option_and_then, if◌then◌else◌}
use Rattle.std.specs.List.{list_any}
use Rattle.std.specs.Option.{option_map_or}
use Rattle.std.proofs.lemmas.Bool.{and_parts}
use Rattle.timing_defs.specs.declared.edge_times.EdgeTime.{EdgeTime}
use Rattle.timing_defs.specs.declared.kinds.Split.{Split}
use Rattle.timing_defs.specs.declared.kinds.Tran.{Tran}
use Rattle.timing_defs.specs.declared.design.Design.{Design}
use Rattle.timing_defs.specs.Netlist.{Node, name_of, pins, same_pin, same_tran, same_node}
use Rattle.timing_defs.specs.Touches.{Touch}
use Rattle.timing_rules.specs.Cones.{has_register_arc}
use Rattle.timing_rules.specs.Rows.{arcs_in, row, delay, arrival}
use Rattle.timing_defs.specs.RowTimes.{times_in, time_on}
use Rattle.timing_rules.specs.Paths.{Named, named, node_named, arc_delay, delay_between}
use Rattle.timing_defs.proofs.SameNames.{same_is}
use Rattle.timing_defs.proofs.Members.{some_is, any_back, found_in}
use Rattle.netlist_store.specs.Linked.{IsLinked}
use Rattle.netlist_store.specs.Numbering.{Stored, number_of, IsNumbered}
use Rattle.netlist_store.specs.Applying.{IsEditOf}
use Rattle.eco_laws.proofs.EditOf.{base_linked, edited_linked, numbers_kept}
use Rattle.store_pins.proofs.PinLaws.{pin_told}
use Rattle.pin_graph.specs.declared.arcs.GraphArc.{GraphArc}
use Rattle.pin_graph.specs.Nodes.{node_number, node_at, number_at}
use Rattle.pin_graph.specs.Graphs.{IsArc, kind_between}
use Rattle.pin_graph.specs.RowTables.{row_numbered}
use Rattle.timing_rules.specs.Rows.{empty_row}
use Rattle.pin_graph.proofs.JoinLaws.{then_back, mapped_back}
use Rattle.pin_graph.proofs.NodeLaws.{HasNode, node_told, has_node, one_number as same_number}
use Rattle.arc_delays.specs.Delays.{delay_numbered}
use Rattle.calm_laws.specs.Pairs.{ArePairs}
use Rattle.calm_laws.proofs.Calm.{IsArcPair}
use Rattle.calm_laws.proofs.NoSeedCalm.{HasCalm}
use Rattle.calm_laws.proofs.PairLaws.{pair_of, pair_from}
use Rattle.calm_laws.proofs.AlikeLaws.{name_same}
use Rattle.calm_laws.proofs.ArcsKept.{arcs_kept}
use Rattle.calm_laws.proofs.CellNodes.{tran_is}
use Rattle.calm_laws.proofs.InDesign.{one_node, from_within}
use Rattle.calm_laws.proofs.QuietNodes.{told_node, named_in, arc_there}
use Rattle.edit_reach.specs.Reach.{is_in, HasSeeds}
use Rattle.bounded_changes.specs.Carried.{arrival_named}
use Rattle.carried_times.specs.Times.{ArrivesAt}
use Rattle.carried_times.proofs.Unseeded.{HasUnseeded, calm, told, told2}

-- a step of a walk, by its nodes
pub record IsStep (e : Design) (split : Split) (m n : Named) (x : ℤ) : Type 0 where
  pub from : Node
  pub to : Node
  pub from_told : node_named e m ≡ Some from
  pub to_told : node_named e n ≡ Some to
  pub arc : Contains (arcs_in e to) from
  pub takes : delay e split from to ≡ Some x

chosen : {X : Type 0} (b : Bool) (o : Option X) (x : X) → (if b then o else None) ≡ Some x → (b ≡ true) × (o ≡ Some x)
chosen true o x e = (refl, e)
chosen false o x e = absurd (cc)

module _ (e : Design) (linked : IsLinked e) where
  pub step_back : (split : Split) (m n : Named) (x : ℤ) → delay_between e split m n ≡ Some x → IsStep e split m n x
  step_back split m n x h =
      let a = then_back (λ from. option_and_then (arc_delay e split from) (node_named e n)) (node_named e m) x h in
      let b = then_back (arc_delay e split a.0) (node_named e n) x a.2 in
      let c = chosen (list_any (same_node a.0) (arcs_in e b.0)) (delay e split a.0 b.0) x b.2 in
      let r = any_back (same_node a.0) (arcs_in e b.0) c.0 in
      let parts = and_parts (same_pin a.0.pin r.item.pin) (same_tran a.0.tran r.item.tran) r.passes in
      let same : r.item ≡ a.0 =
      one_node e linked r.item a.0 (from_within e linked b.0 (named_in e n b.0 b.1).0 r.item r.within) (named_in e m a.0 a.1).0
      (sym (same_is (name_of a.0.pin) (name_of r.item.pin) parts.0)) (sym (tran_is a.0.tran r.item.tran parts.1)) in
      record {
        from = a.0;
        to = b.0;
        from_told = a.1;
        to_told = b.1;
        arc = subst (λ (y : Node). Contains (arcs_in e b.0) y) same r.within;
        takes = c.1;
      }

-- a node by its name has a number
pub record IsNumberedNode (s : Stored) (n : Named) (a : Node) : Type 0 where
  pub number : ℕ
  pub has : HasNode s a number
  pub at : number_at s n.0 n.1 ≡ Some number

module _ (s : Stored) (num : IsNumbered s) (linked : IsLinked s.design) where
  pub numbered : (n : Named) (a : Node) → node_named s.design n ≡ Some a → IsNumberedNode s n a
  numbered n a e =
      let it = named_in s.design n a e in
      let p = pin_told s num linked a.pin it.0 in
      record {
        number = node_number p.0 a.tran;
        has = record { pin = p.0; has = p.1; number = refl };
        at = (λ k. option_map (λ pin. node_number pin (sym it.1.1 k)) (number_of s.pins (sym it.1.0 k))) ∙ ap (option_map (λ pin. node_number pin a.tran)) p.1.number;
      }

  -- an arrival of a node by its name is one of its number
  pub arrives_at : (split : Split) (edge : ℕ × Tran) (n : Named) (a : Node) (k : ℕ) → node_named s.design n ≡ Some a → HasNode s a k → (t : ℤ)
      → arrival_named s.design split edge n ≡ Some t → ArrivesAt s split k t
  arrives_at split edge n a k e has t h =
      let there : time_on (times_in split (row_numbered s k)) edge ≡ Some t =
      ap (λ o. time_on (times_in split (option_map_or (row s.design) o empty_row)) edge) (node_told s a k has)
      ∙ ap (option_and_then (λ node. arrival s.design split node edge)) (sym e) ∙ h in
      let m = mapped_back (λ (t : EdgeTime). t.time.0) (find (λ t. nat_eq t.clock edge.0 && same_tran t.tran edge.1) (times_in split (row_numbered s k))) t there in
      (m.0, found_in (λ (t : EdgeTime). nat_eq t.clock edge.0 && same_tran t.tran edge.1) (times_in split (row_numbered s k)) m.0 m.1, m.2)

-- a step into a node that is no seed, in both designs
pub record IsStepPair (base s : Stored) (split : Split) (m n : Named) : Type 0 where
  pub arc : GraphArc
  pub is_arc : IsArc s arc
  pub from_at : number_at s m.0 m.1 ≡ Some arc.from
  pub to_at : number_at s n.0 n.1 ≡ Some arc.to
  pub told : delay_between base.design split m n ≡ delay_numbered base split arc.from arc.to
  pub told2 : delay_between s.design split m n ≡ delay_numbered s split arc.from arc.to
  pub arrives : (edge : ℕ × Tran) (t : ℤ) → arrival_named base.design split edge m ≡ Some t → ArrivesAt base split arc.from t
  pub arrives2 : (edge : ℕ × Tran) (t : ℤ) → arrival_named s.design split edge m ≡ Some t → ArrivesAt s split arc.from t

-- an arc of the base between the same numbers
pub record HasBaseArc (base : Stored) (of : GraphArc) : Type 0 where
  pub arc : GraphArc
  pub is_arc : IsArc base arc
  pub from : arc.from ≡ of.from
  pub to : arc.to ≡ of.to

module _ (base s : Stored) (touch : Touch) (made : IsEditOf base touch s) (num : IsNumbered base) (num2 : IsNumbered s) (seeds : List ℕ) (all : HasSeeds base s touch seeds) where
  linked : IsLinked base.design
  linked = base_linked base touch s made

  linked2 : IsLinked s.design
  linked2 = edited_linked base touch s made

  -- a name has one number in both stores
  pub one_number : (n : Named) (j k : ℕ) → number_at base n.0 n.1 ≡ Some j → number_at s n.0 n.1 ≡ Some k → j ≡ k
  one_number n j k e f =
      let a = mapped_back (λ pin. node_number pin n.1) (number_of base.pins n.0) j e in
      let b = mapped_back (λ pin. node_number pin n.1) (number_of s.pins n.0) k f in
      sym a.2 ∙ ap (λ pin. node_number pin n.1) ((numbers_kept base touch s made).pins.numbers n.0 a.0 b.0 a.1 b.1) ∙ b.2

  -- the base's arc of an arc into a node that is no seed
  module _ (arc : GraphArc) (is : IsArc s arc) (off : is_in seeds arc.to ≡ false) where
    to_has : HasNode s is.to arc.to
    to_has = has_node s num2 linked2 arc.to is.to is.to_number

    from_has : HasNode s is.from arc.from
    from_has = has_node s num2 linked2 arc.from is.from is.from_number

    to_calm : HasCalm base.design s.design is.to
    to_calm = calm base s touch made num2 seeds all (named is.to) (record { number = arc.to; node = is.to; has = to_has; is_named = refl; off = off })

    pub base_arc : HasBaseArc base arc
    base_arc =
        let p = pair_of (IsArcPair base.design s.design to_calm.node is.to) (arcs_in base.design to_calm.node) (arcs_in s.design is.to)
        (arcs_kept base.design s.design to_calm.node is.to to_calm.calm) is.from is.within in
        let name : named p.0 ≡ named is.from = (λ k. (name_same p.0 is.from p.1.1.alike k, sym p.1.1.alike.tran k)) in
        let j1 = numbered base num linked (named p.0) p.0 (told_node base.design linked p.0 (from_within base.design linked to_calm.node to_calm.within p.0 p.1.0)) in
        let j2 = numbered s num2 linked2 (named is.from) is.from (told_node s.design linked2 is.from from_has.has.within) in
        let k1 = numbered base num linked (named is.to) to_calm.node to_calm.told in
        let k2 = numbered s num2 linked2 (named is.to) is.to (told_node s.design linked2 is.to to_has.has.within) in
        record {
          arc = record { from = j1.number; to = k1.number; kind = kind_between base.design p.0 to_calm.node; edge = has_register_arc base.design p.0 to_calm.node };
          is_arc = record {
            from = p.0;
            from_number = node_told base p.0 j1.number j1.has;
            to = to_calm.node;
            to_number = node_told base to_calm.node k1.number k1.has;
            within = p.1.0;
            kind = refl;
            edge = refl;
          };
          from =
              one_number (named is.from) j1.number j2.number (subst (λ (n : Named). number_at base n.0 n.1 ≡ Some j1.number) name j1.at) j2.at
              ∙ same_number s num2 linked2 j2.number arc.from is.from j2.has from_has;
          to = one_number (named is.to) k1.number k2.number k1.at k2.at ∙ same_number s num2 linked2 k2.number arc.to is.to k2.has to_has;
        }

  module _ (split : Split) (m n : Named) (h : HasUnseeded base s touch made num2 seeds all n) where
    abbrev b1 : Node
    b1 = (calm base s touch made num2 seeds all n h).node

    abbrev b2 : Node
    b2 = h.node

    pairs : ArePairs (IsArcPair base.design s.design b1 b2) (arcs_in base.design b1) (arcs_in s.design b2)
    pairs = arcs_kept base.design s.design b1 b2 (calm base s touch made num2 seeds all n h).calm

    b1_told : node_named base.design n ≡ Some b1
    b1_told = told base s touch made num2 seeds all n h

    b2_told : node_named s.design n ≡ Some b2
    b2_told = told2 base s touch made num2 seeds all n h

    paired : (a1 a2 : Node) → node_named base.design m ≡ Some a1 → node_named s.design m ≡ Some a2 → IsArcPair base.design s.design b1 b2 a1 a2 → IsStepPair base s split m n
    paired a1 a2 e1 e2 pair =
        let j2 = numbered s num2 linked2 m a2 e2 in
        let j1 = numbered base num linked m a1 e1 in
        let k1 = numbered base num linked n b1 b1_told in
        let k2 = numbered s num2 linked2 n b2 b2_told in
        let from = one_number m j1.number j2.number j1.at j2.at in
        let to = one_number n k1.number k2.number k1.at k2.at in
        let from_in = named_in base.design m a1 e1 in
        let from_in2 = named_in s.design m a2 e2 in
        let at1 : node_at base j2.number ≡ Some a1 = ap (node_at base) (sym from) ∙ node_told base a1 j1.number j1.has in
        let at2 : node_at base k2.number ≡ Some b1 = ap (node_at base) (sym to) ∙ node_told base b1 k1.number k1.has in
        record {
          arc = record { from = j2.number; to = k2.number; kind = kind_between s.design a2 b2; edge = has_register_arc s.design a2 b2 };
          is_arc = record {
            from = a2;
            from_number = node_told s a2 j2.number j2.has;
            to = b2;
            to_number = node_told s b2 k2.number k2.has;
            within = pair.after;
            kind = refl;
            edge = refl;
          };
          from_at = j2.at;
          to_at = k2.at;
          told =
              arc_there base.design linked split n b1 b1_told m a1 from_in.0 pair.before (λ k. (from_in.1.0 k, from_in.1.1 k))
              ∙ sym (ap (λ o. option_and_then (λ a. option_and_then (delay base.design split a) (node_at base k2.number)) o) at1
              ∙ ap (option_and_then (delay base.design split a1)) at2);
          told2 =
              arc_there s.design linked2 split n b2 b2_told m a2 from_in2.0 pair.after (λ k. (from_in2.1.0 k, from_in2.1.1 k))
              ∙ sym (ap (λ o. option_and_then (λ a. option_and_then (delay s.design split a) (node_at s k2.number)) o) (node_told s a2 j2.number j2.has)
              ∙ ap (option_and_then (delay s.design split a2)) (node_told s b2 k2.number k2.has));
          arrives = λ edge t f.
              arrives_at base num linked split edge m a1 j2.number e1
              (record { pin = j1.has.pin; has = j1.has.has; number = sym from ∙ j1.has.number }) t f;
          arrives2 = λ edge t f. arrives_at s num2 linked2 split edge m a2 j2.number e2 j2.has t f;
        }

    -- from a step in the base
    pub pair_before : (x : ℤ) → delay_between base.design split m n ≡ Some x → IsStepPair base s split m n
    pair_before x e =
        let st = step_back base.design linked split m n x e in
        let same : st.to ≡ b1 = some_is (sym st.to_told ∙ b1_told) in
        let p = pair_from (IsArcPair base.design s.design b1 b2) (arcs_in base.design b1) (arcs_in s.design b2) pairs st.from
        (subst (λ (y : Node). Contains (arcs_in base.design y) st.from) same st.arc) in
        let it = named_in base.design m st.from st.from_told in
        let name : named p.0 ≡ m = (λ k. (sym (name_same st.from p.0 p.1.1.alike) k, p.1.1.alike.tran k)) ∙ (λ k. (it.1.0 k, it.1.1 k)) in
        paired st.from p.0 st.from_told
        (subst (λ (w : Named). node_named s.design w ≡ Some p.0) name
        (told_node s.design linked2 p.0 (from_within s.design linked2 b2 h.has.has.within p.0 p.1.0))) p.1.1

    -- from a step in the edited design
    pub pair_after : (x : ℤ) → delay_between s.design split m n ≡ Some x → IsStepPair base s split m n
    pair_after x e =
        let st = step_back s.design linked2 split m n x e in
        let same : st.to ≡ b2 = some_is (sym st.to_told ∙ b2_told) in
        let p = pair_of (IsArcPair base.design s.design b1 b2) (arcs_in base.design b1) (arcs_in s.design b2) pairs st.from
        (subst (λ (y : Node). Contains (arcs_in s.design y) st.from) same st.arc) in
        let it = named_in s.design m st.from st.from_told in
        let name : named p.0 ≡ m = (λ k. (name_same p.0 st.from p.1.1.alike k, sym p.1.1.alike.tran k)) ∙ (λ k. (it.1.0 k, it.1.1 k)) in
        paired p.0 st.from
        (subst (λ (w : Named). node_named base.design w ≡ Some p.0) name
        (told_node base.design linked p.0
        (from_within base.design linked b1 (calm base s touch made num2 seeds all n h).within p.0 p.1.0)))
        st.from_told p.1.1
