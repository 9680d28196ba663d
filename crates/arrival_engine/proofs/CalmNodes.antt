-- A node that an ECO does not affect keeps the delays of the arcs into it, and stays fine over fine ones.

use Rattle.std.proofs.Common.{◌≡◌, ℕ, ◌<◌, false, List, Some, refl, sym, ap, subst, ◌∙◌}
use Rattle.std.specs.Prelude.{Contains, is_some, option_and_then}
use Rattle.timing_defs.specs.declared.kinds.Split.{Split}
use Rattle.timing_defs.specs.declared.design.Design.{Design}
use Rattle.timing_defs.specs.Netlist.{Node, name_of, pins}
use Rattle.timing_rules.specs.Rows.{arcs_in, delay}
use Rattle.timing_defs.specs.Touches.{Touch}
use Rattle.timing_rules.specs.Cones.{has_register_arc, is_forward}
use Rattle.netlist_store.specs.Linked.{IsLinked}
use Rattle.netlist_store.specs.Numbering.{Stored, number_of, IsNumbered}
use Rattle.netlist_store.specs.Applying.{IsEditOf}
use Rattle.node_rows.proofs.FineLaws.{IsFine, IsCarried}
use Rattle.level_cone.specs.Cone.{affected}
use Rattle.eco_laws.proofs.EditOf.{base_linked, edited_linked}
use Rattle.eco_laws.proofs.Numbers.{number_of_both}
use Rattle.calm_laws.proofs.Calm.{IsArcPair}
use Rattle.calm_laws.proofs.AlikeLaws.{name_same}
use Rattle.calm_laws.proofs.PairLaws.{pair_of}
use Rattle.calm_laws.proofs.ArcsKept.{arcs_kept}
use Rattle.calm_laws.proofs.NoSeedCalm.{HasCalm}
use Rattle.calm_laws.proofs.Forward.{delays_before, stays_fine, stays_near}
use Rattle.pin_graph.specs.declared.arcs.GraphArc.{GraphArc}
use Rattle.pin_graph.specs.Nodes.{node_at, node_bound, node_number}
use Rattle.pin_graph.specs.Graphs.{Graphed, IsGraph, IsArc, kind_between}
use Rattle.timing_defs.proofs.Members.{some_is}
use Rattle.pin_graph.proofs.NodeLaws.{HasNode, node_told, has_node, same_node_at}
use Rattle.pin_graph.proofs.GraphRows.{Stands, level, placed}
use Rattle.arc_delays.specs.declared.tables.ArcDelay.{ArcDelay}
use Rattle.arc_delays.specs.Delays.{delay_numbered, AreDelaysAt}
use Rattle.arrival_engine.specs.Analysed.{IsFineNode}
use Rattle.arrival_engine.specs.Updated.{forward_cone}
use Rattle.arrival_engine.proofs.ForwardCone.{here, not_forward, kept_node, kept_number}

-- a delay by numbers is that of the nodes
delay_is : (s : Stored) (split : Split) (m k : ℕ) (from to : Node) → node_at s m ≡ Some from → node_at s k ≡ Some to → delay_numbered s split m k ≡ delay s.design split from to
delay_is s split m k from to e f =
    ap (λ o. option_and_then (λ x. option_and_then (delay s.design split x) (node_at s k)) o) e ∙ ap (option_and_then (delay s.design split from)) f

module _ (base g : Graphed) (touch : Touch) (made : IsEditOf base.stored touch g.stored) (num : IsNumbered base.stored) (num2 : IsNumbered g.stored) (is : IsGraph base) (is2 : IsGraph g)
    (k : ℕ) (low : k < node_bound g.stored) (n2 : Node) (at : node_at g.stored k ≡ Some n2) (none : affected (forward_cone base.stored touch g) k ≡ false) where
  abbrev s : Stored
  s = base.stored

  abbrev s2 : Stored
  s2 = g.stored

  linked : IsLinked s.design
  linked = base_linked s touch s2 made

  linked2 : IsLinked s2.design
  linked2 = edited_linked s touch s2 made

  abbrev kept : HasCalm s.design s2.design n2
  kept = kept_node base g touch made num num2 is is2 k low n2 at none

  was_number : HasNode s kept.node k
  was_number = kept_number base g touch made num num2 is is2 k low n2 at none

  abbrev off : is_forward s.design s2.design touch n2 ≡ false
  off = not_forward base g touch made num num2 is is2 k low n2 at none

  abbrev within2 : Contains (pins s2.design) n2.pin
  within2 = (here base g touch made num num2 is is2 k low n2 at).has.within

  -- the nodes of a pair of arcs have one number
  module _ (from from2 : Node) (pair : IsArcPair s.design s2.design kept.node n2 from from2) (m : ℕ) (has2 : HasNode s2 from2 m) where
    from_before : HasNode s from m
    from_before =
        let r = (placed base num linked is).closed kept.node (k, was_number) from pair.before in
        let h = r.1 in
        let same : number_of s2.pins (name_of from2.pin) ≡ number_of s.pins (name_of from2.pin) =
        number_of_both s touch s2 made num num2 (name_of from2.pin)
        (ap is_some (ap (number_of s.pins) (sym (name_same from from2 pair.alike)) ∙ h.has.number)) (ap is_some has2.has.number) in
        let pin : h.pin ≡ has2.pin = some_is (sym h.has.number ∙ ap (number_of s.pins) (name_same from from2 pair.alike) ∙ sym same ∙ has2.has.number) in
        record { pin = h.pin; has = h.has; number = has2.number ∙ (λ i. node_number (sym pin i) (pair.alike.tran i)) }

  pub delays_kept : (xs : List ArcDelay) → AreDelaysAt s k xs → AreDelaysAt s2 k xs
  delays_kept xs are split arc a to =
      let to_is : a.to ≡ n2 = same_node_at s2 a.to n2 k (subst (λ (x : ℕ). node_at s2 x ≡ Some a.to) to a.to_number) at in
      let from_in : Contains (arcs_in s2.design n2) a.from = subst (λ (x : Node). Contains (arcs_in s2.design x) a.from) to_is a.within in
      let p = pair_of (IsArcPair s.design s2.design kept.node n2) (arcs_in s.design kept.node) (arcs_in s2.design n2) (arcs_kept s.design s2.design kept.node n2 kept.calm) a.from from_in in
      let pair = p.1.1 in
      let has2 = has_node s2 num2 linked2 arc.from a.from a.from_number in
      let was = from_before p.0 a.from pair arc.from has2 in
      let old : GraphArc = record { from = arc.from; to = k; kind = kind_between s.design p.0 kept.node; edge = has_register_arc s.design p.0 kept.node } in
      let is_old : IsArc s old =
      record {
        from = p.0;
        from_number = node_told s p.0 arc.from was;
        to = kept.node;
        to_number = node_told s kept.node k was_number;
        within = pair.before;
        kind = refl;
        edge = refl;
      } in
      are split old is_old refl
      ∙ delay_is s split arc.from k p.0 kept.node (node_told s p.0 arc.from was) (node_told s kept.node k was_number)
      ∙ delays_before s touch s2 made n2 within2 off split p.0 a.from pair
      ∙ sym (delay_is s2 split arc.from k a.from n2 a.from_number at)
      ∙ ap (delay_numbered s2 split arc.from) (sym to)

  -- over fine nodes it is fine
  module _ (all : (n : Node) (m : ℕ) → HasNode s n m → IsFineNode s.design n) (carried : (split : Split) → IsCarried s.design split kept.node)
      (before : (from2 : Node) → Contains (arcs_in s2.design n2) from2 → IsFineNode s2.design from2) where
    fine_of : (d : Design) (split : Split) (n : Node) → IsFineNode d n → IsFine d split n
    fine_of d split n f = record { slew = f.slew split; arrivals = λ edge c. f.arrivals split edge c }

    was_fine : IsFineNode s.design kept.node
    was_fine = all kept.node k was_number

    fines : (split : Split) (from : Node) → Contains (arcs_in s.design kept.node) from → IsFine s.design split from
    fines split from c = let r = (placed base num linked is).closed kept.node (k, was_number) from c in fine_of s.design split from (all from r.0 r.1)

    fines2 : (split : Split) (from2 : Node) → Contains (arcs_in s2.design n2) from2 → IsFine s2.design split from2
    fines2 split from2 c = fine_of s2.design split from2 (before from2 c)

    still : (split : Split) → IsFine s2.design split n2
    still split =
        stays_fine s touch s2 made n2 within2 off (Stands base num linked is) (level base num linked is) (placed base num linked is) (k, was_number)
        (Stands g num2 linked2 is2) (level g num2 linked2 is2) (placed g num2 linked2 is2) (k, here base g touch made num num2 is is2 k low n2 at)
        split (fines split) (fines2 split) (carried split) (was_fine.origins split)

    pub fine_kept : IsFineNode s2.design n2
    fine_kept = record {
      slew = λ split. (still split).slew;
      arrivals = λ split edge c. (still split).arrivals edge c;
      origins = λ split.
          stays_near s touch s2 made n2 within2 off (Stands base num linked is) (level base num linked is) (placed base num linked is) (k, was_number)
          (Stands g num2 linked2 is2) (level g num2 linked2 is2) (placed g num2 linked2 is2) (k, here base g touch made num num2 is is2 k low n2 at)
          split (fines split) (fines2 split) (carried split) (was_fine.origins split);
    }
