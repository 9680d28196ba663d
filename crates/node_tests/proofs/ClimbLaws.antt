-- The way back over the clock network, by the numbers of nodes.

use Rattle.std.proofs.Common.{◌≡◌, ℕ, ◌<◌, Bool, true, false, List, [], ◌∷◌, length, Option, None, Some, refl, sym, ap, subst, ◌∙◌, inl, inr, arith}
use Rattle.std.specs.Prelude.{Contains, is_some, option_map, option_and_then, if◌then◌else◌, ◌&&◌}
use Rattle.std.specs.List.{position, list_any}
use Rattle.std.specs.Option.{option_map_or}
use Rattle.std.proofs.lemmas.Bool.{cases_Bool, false≢true, and_parts}
use Rattle.timing_defs.specs.declared.kinds.Dir.TheVariants.{Input}
use Rattle.timing_defs.specs.declared.kinds.Tran.{Tran}
use Rattle.timing_defs.specs.declared.constraints.Clock.{Clock}
use Rattle.timing_defs.specs.declared.netlist.Inst.{Inst}
use Rattle.timing_defs.specs.Netlist.{Pin, Node, pins, nodes, pin_named, name_of, full_name, same_dir}
use Rattle.timing_rules.specs.Clocking.{is_network, is_clock_port, port_has_clock}
use Rattle.timing_rules.specs.Rows.{arcs_in}
use Rattle.timing_rules.specs.Cones.{has_register_arc}
use Rattle.timing_rules.specs.Tests.{network_walk, edge_of_port}
use Rattle.netlist_store.specs.Numbering.{Stored, name_at, is_number, pin_numbered, IsNumbered}
use Rattle.netlist_store.specs.Linked.{IsLinked}
use Rattle.pin_graph.specs.declared.arcs.GraphArc.{GraphArc}
use Rattle.pin_graph.specs.Nodes.{node_at, node_bound, pin_under, tran_under}
use Rattle.pin_graph.specs.Graphs.{Graphed, fan_at, network_at, level_at, IsGraph, IsArc, kind_between}
use Rattle.timing_defs.proofs.Members.{some_is, first_in, none_in}
use Rattle.store_pins.proofs.PinLaws.{pin_of_number}
use Rattle.pin_graph.proofs.NodeLaws.{HasNode, node_told, node_below, has_node, same_node_at}
use Rattle.pin_graph.proofs.GraphRows.{Stands, level, level_is, placed, low_level}
use Rattle.node_tests.specs.Walks.{has_clock, clock_of, first_from, IsAbove, IsTop, StartsOn}
use Rattle.node_tests.proofs.EdgeLaws.{edge_is, none_has, no_place}
use Rattle.node_tests.proofs.OneBefore.{port_first, one_before, before_network}
use Rattle.node_tests.proofs.WalkSteps.{behind_self, behind_more, off_network, walk_starts, walk_ends, behind_one}

no_members : {X : Type 0} (xs : List X) → ((x : X) → Contains xs x → ⊥) → xs ≡ []
no_members [] none = refl
no_members (x ∷ xs) none = absurd (none x (first_in x xs))

no_first : (arcs : List GraphArc) → first_from arcs ≡ None → arcs ≡ []
no_first [] e = refl
no_first (arc ∷ arcs) e = absurd (cc)

head_of : (arcs : List GraphArc) (from : ℕ) → first_from arcs ≡ Some from → (arc : GraphArc) × Contains arcs arc × (arc.from ≡ from)
head_of [] from e = absurd (cc)
head_of (arc ∷ arcs) from e = (arc, first_in arc arcs, some_is e)

pub node_pin : (s : Stored) (k : ℕ) (n : Node) → node_at s k ≡ Some n → (pin_numbered s (pin_under k) ≡ Some n.pin) × (tran_under k ≡ n.tran)
node_pin s k n e = by (pin_numbered s (pin_under k)) refl
  where
    by : (o : Option Pin) → pin_numbered s (pin_under k) ≡ o → (pin_numbered s (pin_under k) ≡ Some n.pin) × (tran_under k ≡ n.tran)
    by None h = let f : None ≡ Some n = sym (ap (option_map (λ pin. record { pin = pin; tran = tran_under k })) h) ∙ e in absurd (cc)
    by (Some p) h =
        let f : ◌≡◌ {A = Node} (record { pin = p; tran = tran_under k }) n = some_is (sym (ap (option_map (λ pin. record { pin = pin; tran = tran_under k })) h) ∙ e) in
        (h ∙ ap (λ (m : Node). Some m.pin) f, ap (λ (m : Node). m.tran) f)

module _ (g : Graphed) (num : IsNumbered g.stored) (linked : IsLinked g.stored.design) (is : IsGraph g) where
  network_told : (node : ℕ) → node < node_bound g.stored → network_at g node ≡ option_map_or (is_network g.stored.design) (pin_numbered g.stored (pin_under node)) false
  network_told node low = is.network.each (pin_under node) (omega (arith, low))

  pub above_first : (node : ℕ) → node < node_bound g.stored → network_at g node ≡ true → IsAbove g node node
  above_first node low net = by (pin_numbered g.stored (pin_under node)) refl
    where
      by : (o : Option Pin) → pin_numbered g.stored (pin_under node) ≡ o → IsAbove g node node
      by None h = absurd (false≢true (sym (ap (λ o. option_map_or (is_network g.stored.design) o false) h) ∙ sym (network_told node low) ∙ net))
      by (Some p) h =
          let number : node_at g.stored node ≡ Some (record { pin = p; tran = tran_under node }) = ap (option_map (λ pin. record { pin = pin; tran = tran_under node })) h in
          record {
            to = record { pin = p; tran = tran_under node };
            to_number = number;
            from = record { pin = p; tran = tran_under node };
            from_number = number;
            low = low;
            network = sym (ap (λ o. option_map_or (is_network g.stored.design) o false) h) ∙ sym (network_told node low) ∙ net;
            behind = behind_self g.stored.design (record { pin = p; tran = tran_under node });
          }

  short : (n : Node) → Stands g num linked is n → level g num linked is n < length (nodes g.stored.design)
  short = low_level g num linked is

  module _ (node top : ℕ) (above : IsAbove g node top) where
    here : HasNode g.stored above.from top
    here = has_node g.stored num linked top above.from above.from_number

    stands : Stands g num linked is above.from
    stands = (top, here)

    there : Contains (pins g.stored.design) above.from.pin
    there = here.has.within

    entered : (x : Node) → Contains (arcs_in g.stored.design above.from) x → is_clock_port g.stored.design above.from.pin ≡ false
    entered x c = elim (cases_Bool (is_clock_port g.stored.design above.from.pin)) [
      | inl e ↦ absurd (none_in x (subst (λ (xs : List Node). Contains xs x) (port_first g.stored.design above.from e) c))
      | inr e ↦ e
    ]

    record IsFirst (from : ℕ) : Type 0 where
      pub before : Node
      pub number : node_at g.stored from ≡ Some before
      pub within : Contains (arcs_in g.stored.design above.from) before

    arc_first : (from : ℕ) → first_from (fan_at g.ins top) ≡ Some from → IsFirst from
    arc_first from e =
        let r = head_of (fan_at g.ins top) from e in
        let arc = (is.ins top above.low).sound r.0 r.1 in
        let to : arc.0.to ≡ above.from = same_node_at g.stored arc.0.to above.from top (ap (node_at g.stored) (sym arc.1) ∙ arc.0.to_number) above.from_number in
        record {
          before = arc.0.from;
          number = ap (node_at g.stored) (sym r.2) ∙ arc.0.from_number;
          within = subst (λ (n : Node). Contains (arcs_in g.stored.design n) arc.0.from) to arc.0.within;
        }

    pub above_more : (from : ℕ) → first_from (fan_at g.ins top) ≡ Some from → IsAbove g node from
    above_more from e =
        let f = arc_first from e in
        let port = entered f.before f.within in
        let its = before_network g.stored.design is.tree above.from there above.network port f.before f.within in
        let has = has_node g.stored num linked from f.before f.number in
        record {
          to = above.to;
          to_number = above.to_number;
          from = f.before;
          from_number = f.number;
          low = node_below g.stored f.before from has;
          network = its;
          behind =
              behind_more g.stored.design f.before above.from above.to
              (behind_one g.stored.design (Stands g num linked is) (level g num linked is) (placed g num linked is) short above.from stands above.network port f.before f.within
              (λ x c. one_before g.stored.design is.tree above.from there above.network port x f.before c f.within) its)
              above.behind;
        }

    pub level_falls : (from : ℕ) → first_from (fan_at g.ins top) ≡ Some from → level_at g from < level_at g top
    level_falls from e =
        let f = arc_first from e in
        let has = has_node g.stored num linked from f.before f.number in
        let up = (placed g num linked is).rising above.from stands f.before f.within in
        let a = level_is g num linked is f.before from has in
        let b = level_is g num linked is above.from top here in
        omega (arith, up, a, b)

    top_reached : first_from (fan_at g.ins top) ≡ None → IsTop g node top
    top_reached e = record { above = above; first = no_first (fan_at g.ins top) e }

    pub top_reached_as : (o : Option ℕ) → o ≡ first_from (fan_at g.ins top) → ((x : ℕ) → o ≡ Some x → ⊥) → IsTop g node top
    top_reached_as None e none = top_reached (sym e)
    top_reached_as (Some x) e none = absurd (none x refl)

  module _ (node top : ℕ) (at : IsTop g node top) where
    alone : arcs_in g.stored.design at.above.from ≡ []
    alone = no_members (arcs_in g.stored.design at.above.from) (λ x c.
        let s = (placed g num linked is).closed at.above.from (stands node top at.above) x c in
        let arc : GraphArc = record { from = s.0; to = top; kind = kind_between g.stored.design x at.above.from; edge = has_register_arc g.stored.design x at.above.from } in
        let arc_is : IsArc g.stored arc = record {
          from = x;
          from_number = node_told g.stored x s.0 s.1;
          to = at.above.from;
          to_number = at.above.from_number;
          within = c;
          kind = refl;
          edge = refl;
        } in
        none_in arc (subst (λ (xs : List GraphArc). Contains xs arc) at.first ((is.ins top at.above.low).all arc arc_is refl)))

    pub pin_is : pin_numbered g.stored (pin_under top) ≡ Some at.above.from.pin
    pin_is = (node_pin g.stored top at.above.from at.above.from_number).0

    walk_of : (o : Option (List Node)) → network_walk g.stored.design at.above.to ≡ o → option_and_then (network_walk g.stored.design) (node_at g.stored node) ≡ o
    walk_of o e = ap (option_and_then (network_walk g.stored.design)) at.above.to_number ∙ e

    no_clock : clock_of g.stored.design at.above.from.pin ≡ None → is_clock_port g.stored.design at.above.from.pin ≡ false
    no_clock e = elim (cases_Bool (is_clock_port g.stored.design at.above.from.pin)) [
      | inr h ↦ h
      | inl h ↦
          let f : position (has_clock at.above.from.pin.own) g.stored.design.constraints.clocks ≡ None = rw h at e in
          let none = none_has (has_clock at.above.from.pin.own) g.stored.design.constraints.clocks f in
          absurd (false≢true (sym none ∙ clocked at.above.from.pin.owner (sym (ap (λ o. o) h))))
    ]
      where
        clocked : (o : Option Inst) → true ≡ is_clock_port g.stored.design at.above.from.pin → list_any (has_clock at.above.from.pin.own) g.stored.design.constraints.clocks ≡ true
        clocked o e = by at.above.from.pin.owner (sym e)
          where
            by : (o : Option Inst) → port_has_clock g.stored.design.constraints.clocks o at.above.from.pin ≡ true → list_any (has_clock at.above.from.pin.own) g.stored.design.constraints.clocks ≡ true
            by None h = (and_parts (same_dir at.above.from.pin.dir Input) (list_any (has_clock at.above.from.pin.own) g.stored.design.constraints.clocks) h).1
            by (Some inst) h = absurd (false≢true h)

    pub starts_none : clock_of g.stored.design at.above.from.pin ≡ None → StartsOn g.stored (option_and_then (network_walk g.stored.design) (node_at g.stored node)) None
    starts_none e =
        let ends = walk_ends g.stored.design (Stands g num linked is) (level g num linked is) (placed g num linked is) short at.above.from (stands node top at.above) at.above.network (no_clock e) alone in
        subst (λ (o : Option (List Node)). StartsOn g.stored o None) (sym (walk_of None (at.above.behind.none ends))) tt

    pub starts_some : (clock : ℕ) (tran : Tran) → clock_of g.stored.design at.above.from.pin ≡ Some clock → tran ≡ tran_under top
        → StartsOn g.stored (option_and_then (network_walk g.stored.design) (node_at g.stored node)) (Some (record { node = top; clock = clock; tran = tran }))
    starts_some clock tran e t = by (is_clock_port g.stored.design at.above.from.pin) refl
      where
        by : (b : Bool) → is_clock_port g.stored.design at.above.from.pin ≡ b
            → StartsOn g.stored (option_and_then (network_walk g.stored.design) (node_at g.stored node)) (Some (record { node = top; clock = clock; tran = tran }))
        by false h =
            let f : None ≡ Some clock = sym (ap (λ (b : Bool). if b then position (has_clock at.above.from.pin.own) g.stored.design.constraints.clocks else None) h) ∙ e in
            absurd (cc)
        by true h =
            let f : position (has_clock at.above.from.pin.own) g.stored.design.constraints.clocks ≡ Some clock =
            sym (ap (λ (b : Bool). if b then position (has_clock at.above.from.pin.own) g.stored.design.constraints.clocks else None) h) ∙ e in
            let begins = walk_starts g.stored.design (Stands g num linked is) (level g num linked is) (placed g num linked is) short at.above.from (stands node top at.above) at.above.network h in
            let r = at.above.behind.some at.above.from [] begins in
            let its : tran ≡ at.above.from.tran = t ∙ (node_pin g.stored top at.above.from at.above.from_number).1 in
            let edge : edge_of_port g.stored.design at.above.from ≡ Some (clock, tran) =
            edge_is g.stored.design at.above.from ∙ ap (option_map {U = ℕ × Tran} (λ i. (i, at.above.from.tran))) f ∙ (λ k. Some (clock, sym its k)) in
            subst (λ (o : Option (List Node)). StartsOn g.stored o (Some (record { node = top; clock = clock; tran = tran })))
            (sym (walk_of (Some (at.above.from ∷ r.0)) r.1))
            (record { first = at.above.from; rest = r.0; begins = refl; number = at.above.from_number; edge = edge })

  pub starts_off : (node : ℕ) → node < node_bound g.stored → network_at g node ≡ false → StartsOn g.stored (option_and_then (network_walk g.stored.design) (node_at g.stored node)) None
  starts_off node low net = by (node_at g.stored node) refl
    where
      by : (o : Option Node) → node_at g.stored node ≡ o → StartsOn g.stored (option_and_then (network_walk g.stored.design) (node_at g.stored node)) None
      by None e = subst (λ (o : Option (List Node)). StartsOn g.stored o None) (sym (ap (option_and_then (network_walk g.stored.design)) e)) tt
      by (Some n) e =
          let off : is_network g.stored.design n.pin ≡ false =
          sym (ap (λ o. option_map_or (is_network g.stored.design) o false) (node_pin g.stored node n e).0) ∙ sym (network_told node low) ∙ net in
          subst (λ (o : Option (List Node)). StartsOn g.stored o None)
          (sym (ap (option_and_then (network_walk g.stored.design)) e ∙ off_network g.stored.design n off)) tt

-- as the code has it, over a store
module _ (g : Graphed) (s : Stored) (same : g.stored ≡ s) (num : IsNumbered s) (linked : IsLinked s.design) (is : IsGraph g) (node : ℕ) where
  numbered : IsNumbered g.stored
  numbered = subst (λ (z : Stored). IsNumbered z) (sym same) num

  joined : IsLinked g.stored.design
  joined = subst (λ (z : Stored). IsLinked z.design) (sym same) linked

  pub off_as : node < node_bound s → network_at g node ≡ false → StartsOn s (option_and_then (network_walk s.design) (node_at s node)) None
  off_as low net =
      subst (λ (z : Stored). StartsOn z (option_and_then (network_walk z.design) (node_at z node)) None) same
      (starts_off g numbered joined is node (subst (λ (z : Stored). node < node_bound z) (sym same) low) net)

  module _ (top : ℕ) (at : IsTop g node top) (clock : Option ℕ) (told : clock ≡ option_and_then (clock_of s.design) (pin_numbered s (pin_under top))) where
    clock_told : clock ≡ clock_of g.stored.design at.above.from.pin
    clock_told =
        told ∙ ap (λ (z : Stored). option_and_then (clock_of z.design) (pin_numbered z (pin_under top))) (sym same)
        ∙ ap (option_and_then (clock_of g.stored.design)) (pin_is g numbered joined is node top at)

    pub none_as : clock ≡ None → StartsOn s (option_and_then (network_walk s.design) (node_at s node)) None
    none_as e =
        subst (λ (z : Stored). StartsOn z (option_and_then (network_walk z.design) (node_at z node)) None) same
        (starts_none g numbered joined is node top at (sym clock_told ∙ e))

    pub some_as : (n : ℕ) (tran : Tran) → clock ≡ Some n → tran ≡ tran_under top
        → StartsOn s (option_and_then (network_walk s.design) (node_at s node)) (Some (record { node = top; clock = n; tran = tran }))
    some_as n tran e t =
        subst (λ (z : Stored). StartsOn z (option_and_then (network_walk z.design) (node_at z node)) (Some (record { node = top; clock = n; tran = tran }))) same
        (starts_some g numbered joined is node top at n tran (sym clock_told ∙ e) t)

pub no_pin : (s : Stored) (n : ℕ) → is_number s.pins n ≡ false → pin_numbered s n ≡ None
no_pin s n e = by (name_at s.pins n) refl
  where
    by : (o : Option (List ℕ)) → name_at s.pins n ≡ o → pin_numbered s n ≡ None
    by None h = ap (option_and_then (pin_named s.design)) h
    by (Some name) h = absurd (false≢true (sym e ∙ ap is_some h))

-- the clock of an input port
pub clock_input : (s : Stored) (num : IsNumbered s) (linked : IsLinked s.design) (pin : ℕ) (name : List ℕ) (clocks : List Clock) (r : Option ℕ)
    → is_some (option_and_then (λ (p : Pin). p.owner) (pin_numbered s pin)) ≡ false → option_map (λ (p : Pin). p.dir) (pin_numbered s pin) ≡ Some Input
    → name_at s.pins pin ≡ Some name → clocks ≡ s.design.constraints.clocks → r ≡ position (has_clock name) clocks
    → r ≡ option_and_then (clock_of s.design) (pin_numbered s pin)
clock_input s num linked pin name clocks r free dir named same e = by (pin_numbered s pin) refl
  where
    port : (p : Pin) → pin_numbered s pin ≡ Some p → (o : Option Inst) → p.owner ≡ o → p.dir ≡ Input → position (has_clock p.own) s.design.constraints.clocks ≡ clock_of s.design p
    port p f (Some i) own input =
        absurd (false≢true (sym free ∙ ap (λ o. is_some (option_and_then (λ (q : Pin). q.owner) o)) f ∙ ap is_some own))
    port p f None own input =
        let told : is_clock_port s.design p ≡ list_any (has_clock p.own) s.design.constraints.clocks =
        ap (λ o. port_has_clock s.design.constraints.clocks o p) own ∙ ap (λ x. same_dir x Input && list_any (has_clock p.own) s.design.constraints.clocks) input in
        elim (cases_Bool (list_any (has_clock p.own) s.design.constraints.clocks)) [
          | inl h ↦ sym (ap (λ (b : Bool). if b then position (has_clock p.own) s.design.constraints.clocks else None) (told ∙ h))
          | inr h ↦
              no_place (has_clock p.own) s.design.constraints.clocks h
              ∙ sym (ap (λ (b : Bool). if b then position (has_clock p.own) s.design.constraints.clocks else None) (told ∙ h))
        ]

    lone : (p : Pin) → pin_numbered s pin ≡ Some p → (o : Option Inst) → p.owner ≡ o → name_of p ≡ p.own
    lone p f None own = ap (λ o. full_name o p.own) own
    lone p f (Some i) own = absurd (false≢true (sym free ∙ ap (λ o. is_some (option_and_then (λ (q : Pin). q.owner) o)) f ∙ ap is_some own))

    by : (o : Option Pin) → pin_numbered s pin ≡ o → r ≡ option_and_then (clock_of s.design) (pin_numbered s pin)
    by None f = let k : None ≡ Some Input = sym (ap (option_map (λ (p : Pin). p.dir)) f) ∙ dir in absurd (cc)
    by (Some p) f =
        let input : p.dir ≡ Input = some_is (sym (ap (option_map (λ (q : Pin). q.dir)) f) ∙ dir) in
        let its : name ≡ p.own = some_is (sym named ∙ (pin_of_number s num linked pin p f).name) ∙ lone p f p.owner refl in
        e ∙ ap (position (has_clock name)) same ∙ ap (λ n. position (has_clock n) s.design.constraints.clocks) its ∙ port p f p.owner refl input
        ∙ sym (ap (option_and_then (clock_of s.design)) f)
