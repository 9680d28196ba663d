-- The table of the delays of arcs has those of the definition, each within its limit.

use Rattle.std.proofs.Common.{length, get_or, ◌≡◌, ℕ, zero, suc, ◌<◌, ℤ, Bool, true, false, ◌||◌, if◌then◌else◌, List, [], ◌∷◌, map, Option, None, Some, refl, sym, ap, subst, ◌∙◌, inl, inr, arith}
use Rattle.std.specs.Prelude.{nat_eq, Contains, find, option_map, option_and_then, IfSome}
use Rattle.std.proofs.lemmas.Bool.{cases_Bool, eqb-true, eq-eqb, or_parts, not-false, false≢true}
use Rattle.std.proofs.lemmas.Option.{none-some}
use Rattle.sta_units.specs.Numbers.{Within}
use Rattle.timing_defs.specs.declared.kinds.Split.{Split}
use Rattle.timing_defs.specs.declared.kinds.Split.TheVariants.{Early, Late}
use Rattle.timing_defs.specs.declared.library.CellArc.{CellArc}
use Rattle.timing_defs.specs.declared.design.Design.{Design}
use Rattle.timing_defs.specs.declared.rows.NodeRow.{NodeRow}
use Rattle.timing_defs.specs.Lookup.{look}
use Rattle.timing_defs.specs.Netlist.{Node, is_driver}
use Rattle.timing_defs.specs.Wires.{wire_delay}
use Rattle.timing_rules.specs.Rows.{row, delay, delay_from, delay_along, raw_delay, scaled, net_name, load_at, outermost, library_arcs}
use Rattle.timing_defs.specs.RowTimes.{slew_in}
use Rattle.timing_rules.specs.Range.{within_some}
use Rattle.netlist_store.specs.Linked.{IsLinked}
use Rattle.netlist_store.specs.Numbering.{Stored, IsNumbered}
use Rattle.node_rows.specs.Evaluation.{scaled_over, is_wide_looked, is_wide_scaled, is_wide_end, is_wide_along}
use Rattle.node_rows.proofs.AlongLaws.{bound_of}
use Rattle.pin_graph.specs.declared.arcs.GraphArc.{GraphArc}
use Rattle.pin_graph.specs.Nodes.{node_at, node_bound}
use Rattle.pin_graph.specs.Graphs.{Graphed, IsGraph, IsArc, fan_at}
use Rattle.timing_defs.proofs.Members.{first_in, later_in, none_in}
use Rattle.pin_graph.proofs.NodeLaws.{node_below, has_node}
use Rattle.arc_delays.specs.declared.tables.ArcDelay.{ArcDelay}
use Rattle.arc_delays.specs.Delays.{delay_numbered, delay_in, delay_told, arc_delay, AreDelays, AreDelaysAt, AreInto, AreAllInto, AreWithin}
use Rattle.arc_delays.proofs.DelayLaws.{narrow_arc}

-- the first arc from a node, with its delays
record HasArc (s : Stored) (from : ℕ) (arcs : List GraphArc) : Type 0 where
  pub arc : GraphArc
  pub within : Contains arcs arc
  pub same : arc.from ≡ from
  pub found : find (λ (d : ArcDelay). nat_eq d.from from) (map (arc_delay s) arcs) ≡ Some (arc_delay s arc)

from_is : ℕ → ArcDelay → Bool
from_is from d = nat_eq d.from from

find_here : (from : ℕ) (d : ArcDelay) (ds : List ArcDelay) → nat_eq d.from from ≡ true → find (λ (x : ArcDelay). nat_eq x.from from) (d ∷ ds) ≡ Some d
find_here from d ds e = rw e refl

find_later : (from : ℕ) (d : ArcDelay) (ds : List ArcDelay) → nat_eq d.from from ≡ false
    → find (λ (x : ArcDelay). nat_eq x.from from) (d ∷ ds) ≡ find (λ (x : ArcDelay). nat_eq x.from from) ds
find_later from d ds e = rw e refl

has_arc : (s : Stored) (arcs : List GraphArc) (arc : GraphArc) → Contains arcs arc → HasArc s arc.from arcs
has_arc s [] arc c = absurd (none_in arc c)
has_arc s (a ∷ more) arc c = elim (cases_Bool (nat_eq a.from arc.from)) [
  | inl e ↦ record {
    arc = a;
    within = first_in a more;
    same = eqb-true a.from arc.from e;
    found = find_here arc.from (arc_delay s a) (map (arc_delay s) more) e;
  }
  | inr e ↦
      let rest = has_arc s more arc (elsewhere a more arc c e) in
      record {
        arc = rest.arc;
        within = later_in a more rest.arc rest.within;
        same = rest.same;
        found = find_later arc.from (arc_delay s a) (map (arc_delay s) more) e ∙ rest.found;
      }
]
  where
    elsewhere : (a : GraphArc) (more : List GraphArc) (arc : GraphArc) → Contains (a ∷ more) arc → nat_eq a.from arc.from ≡ false → Contains more arc
    elsewhere a more arc (zero, low, is) e =
        absurd (false≢true (sym e ∙ eq-eqb a.from arc.from (ap (λ (x : GraphArc). x.from) is)))
    elsewhere a more arc (suc i, low, is) e = (i, omega (arith, low), is)

-- the table answers with the arc's delay
told_is : (s : Stored) (split : Split) (arcs : List GraphArc) (from : ℕ) (h : HasArc s from arcs) → option_and_then (delay_in split) (find (λ (d : ArcDelay). nat_eq d.from from) (map (arc_delay s) arcs))
    ≡ delay_numbered s split h.arc.from h.arc.to
told_is s Early arcs from h = ap (option_and_then (delay_in Early)) h.found
told_is s Late arcs from h = ap (option_and_then (delay_in Late)) h.found

-- a delay is the one whose limit is tested
over_is : (d : Design) (split : Split) (to from : Node) (told : NodeRow) (v : ℤ) → delay_from d split from to told ≡ Some v → scaled_over d split to from told ≡ Some v
over_is d split to from told v e = by (slew_in split told) refl (is_driver to.pin) refl e
  where
    by : (o : Option ℤ) → slew_in split told ≡ o → (b : Bool) → is_driver to.pin ≡ b → option_and_then (delay_along d split from to) o ≡ Some v
        → scaled_over d split to from told ≡ Some v
    by None p b q f = absurd (none-some v f)
    by (Some x) p true q f =
        let a : scaled_over d split to from told ≡ option_map (scaled d split to) (option_and_then (raw_delay d split from to) (slew_in split told)) =
        ap (λ t. if t then option_map (scaled d split to) (option_and_then (raw_delay d split from to) (slew_in split told))
        else Some (scaled d split to (wire_delay d split (net_name to.pin) from.pin to.pin))) q in
        a ∙ ap (λ o. option_map (scaled d split to) (option_and_then (raw_delay d split from to) o)) p ∙ f
    by (Some x) p false q f =
        let a : scaled_over d split to from told ≡ Some (scaled d split to (wire_delay d split (net_name to.pin) from.pin to.pin)) =
        ap (λ t. if t then option_map (scaled d split to) (option_and_then (raw_delay d split from to) (slew_in split told))
        else Some (scaled d split to (wire_delay d split (net_name to.pin) from.pin to.pin))) q in
        let b : delay_along d split from to x ≡ Some (scaled d split to (wire_delay d split (net_name to.pin) from.pin to.pin)) =
        ap (λ t. option_map (scaled d split to) (if t then outermost split (λ (arc : CellArc). Some (look arc.delay x (load_at d split to.pin))) None (library_arcs d split from to)
        else Some (wire_delay d split (net_name to.pin) from.pin to.pin))) q in
        a ∙ sym b ∙ f

delay_bound : (d : Design) (split : Split) (to from : Node) (told : NodeRow) (v : ℤ) → is_wide_along d split to from told ≡ false → delay_from d split from to told ≡ Some v → Within v
delay_bound d split to from told v narrow e =
    let all = or_parts (is_wide_looked d split to from told || is_wide_scaled d split to from told) (is_wide_end d split to from told) narrow in
    let two = or_parts (is_wide_looked d split to from told) (is_wide_scaled d split to from told) all.0 in
    bound_of v (sym (ap within_some (over_is d split to from told v e)) ∙ not-false (within_some (scaled_over d split to from told)) two.1)

if_some : (o : Option ℤ) → ((v : ℤ) → o ≡ Some v → Within v) → IfSome o Within
if_some None h = tt
if_some (Some v) h = h v refl

module _ (g : Graphed) (num : IsNumbered g.stored) (linked : IsLinked g.stored.design) (is : IsGraph g) where
  arc_below : (arc : GraphArc) → IsArc g.stored arc → arc.to < node_bound g.stored
  arc_below arc a = node_below g.stored a.to arc.to (has_node g.stored num linked arc.to a.to a.to_number)

  arc_within : AreWithin g.stored.design → (split : Split) (arc : GraphArc) → IsArc g.stored arc → IfSome (delay_numbered g.stored split arc.from arc.to) Within
  arc_within fine split arc a =
      let is_delay : delay_numbered g.stored split arc.from arc.to ≡ delay g.stored.design split a.from a.to =
      ap (λ o. option_and_then (λ f. option_and_then (delay g.stored.design split f) (node_at g.stored arc.to)) o) a.from_number
      ∙ ap (λ o. option_and_then (delay g.stored.design split a.from) o) a.to_number in
      if_some (delay_numbered g.stored split arc.from arc.to)
      (λ v e. delay_bound g.stored.design split a.to a.from (row g.stored.design a.from) v (narrow_arc g num linked fine arc a split) (sym is_delay ∙ e))

  -- the delays of the arcs into a node
  pub into_told : (node : ℕ) (delays : List ArcDelay) → node < node_bound g.stored → AreInto g node delays → AreDelaysAt g.stored node delays
  into_told node delays low m split arc a ends =
      let fan = is.ins node low in
      let has = has_arc g.stored (fan_at g.ins node) arc (fan.all arc a ends) in
      let to : has.arc.to ≡ arc.to = (fan.sound has.arc has.within).1 ∙ sym ends in
      ap (λ ds. option_and_then (delay_in split) (find (λ (d : ArcDelay). nat_eq d.from arc.from) ds)) m
      ∙ told_is g.stored split (fan_at g.ins node) arc.from has
      ∙ ap (λ k. delay_numbered g.stored split k has.arc.to) has.same
      ∙ ap (λ k. delay_numbered g.stored split arc.from k) to

  -- a table that has those of each node
  pub delays_by_node : AreWithin g.stored.design → (t : List (List ArcDelay)) → length t ≡ node_bound g.stored
      → ((node : ℕ) → node < node_bound g.stored → AreDelaysAt g.stored node (get_or t node [])) → AreDelays g.stored t
  delays_by_node fine t count each = record { count = count; each = λ split arc a. each arc.to (arc_below arc a) split arc a refl; within = arc_within fine }

  module _ (t : List (List ArcDelay)) (m : AreAllInto g t) where
    told_at : (split : Split) (arc : GraphArc) → IsArc g.stored arc → delay_told t split arc.from arc.to ≡ delay_numbered g.stored split arc.from arc.to
    told_at split arc a = into_told arc.to (get_or t arc.to []) (arc_below arc a) (m.each arc.to (arc_below arc a)) split arc a refl

    all_delays : AreWithin g.stored.design → AreDelays g.stored t
    all_delays fine = record { count = m.count; each = told_at; within = arc_within fine }

-- as the code has it: the graph is that of a store
pub delays_at_node : (s : Stored) (t : List (List ArcDelay)) → AreDelays s t → (node : ℕ) → AreDelaysAt s node (get_or t node [])
delays_at_node s t are node split arc a to =
    ap (λ k. option_and_then (delay_in split) (find (λ (d : ArcDelay). nat_eq d.from arc.from) (get_or t k []))) (sym to) ∙ are.each split arc a

pub delays_there : (g : Graphed) (s : Stored) → g.stored ≡ s → IsNumbered s → IsLinked s.design → IsGraph g → AreWithin s.design → (t : List (List ArcDelay))
    → AreAllInto g t → AreDelays s t
delays_there g s same num linked is fine t m =
    subst (λ (x : Stored). AreDelays x t) same
    (all_delays g (subst (λ (x : Stored). IsNumbered x) (sym same) num) (subst (λ (x : Stored). IsLinked x.design) (sym same) linked) is t m
    (subst (λ (x : Stored). AreWithin x.design) (sym same) fine))
