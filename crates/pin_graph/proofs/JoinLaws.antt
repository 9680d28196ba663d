-- The arcs between numbers are those of the design between its pins.

use Rattle.std.proofs.Common.{◌≡◌, ℕ, Bool, true, false, not, List, [], map, length, Option, None, Some, refl, sym, ap, subst, ◌∙◌, inl, inr}
use Rattle.std.specs.Prelude.{find, option_and_then, option_map, ◌&&◌, if◌then◌else◌, Contains}
use Rattle.std.specs.List.{list_any, list_all, flat_map, range_with_len}
use Rattle.std.specs.Option.{option_map_or}
use Rattle.std.specs.Str.{bytes_eq}
use Rattle.std.proofs.lemmas.Bool.{and_parts, and_from, not-true}
use Rattle.std.proofs.lemmas.List.Elements.{Contains-append_left, Contains-append_right, Contains-append_cases}
use Rattle.timing_defs.specs.declared.kinds.Split.TheVariants.{Late}
use Rattle.timing_defs.specs.declared.kinds.Dir.TheVariants.{Output}
use Rattle.timing_defs.specs.declared.library.Cell.{Cell}
use Rattle.timing_defs.specs.declared.library.CellPin.{CellPin}
use Rattle.timing_defs.specs.declared.library.CellArc.{CellArc}
use Rattle.timing_defs.specs.declared.netlist.Port.{Port}
use Rattle.timing_defs.specs.declared.netlist.Inst.{Inst}
use Rattle.timing_defs.specs.declared.netlist.Conn.{Conn}
use Rattle.timing_defs.specs.Netlist.{Pin, name_of, port_pin, cell_pin, cell_pins, cell_of, inst_pins, pins, net_of, is_on, is_driver, driver, conn_net, is_listed, same_dir}
use Rattle.timing_rules.specs.Clocking.{cell_arcs, sinks_on}
use Rattle.timing_defs.specs.NetChecks.{net_fault}
use Rattle.timing_rules.specs.Checks.{arc_joins, cell_after, walks_to}
use Rattle.netlist_store.specs.Linked.{joins_nets, IsLinked}
use Rattle.netlist_store.specs.Numbering.{Stored, number_of, inst_numbered, pin_numbered, IsNumbered}
use Rattle.levelizer.specs.declared.links.Link.{Link}
use Rattle.pin_graph.specs.declared.pin_arcs.PinArc.{PinArc}
use Rattle.pin_graph.specs.Joins.{own_number, pin_arc, arc_between, numbered_arc, inst_arcs, arcs_of, pin_arcs, net_before, before, link_from, link_into, net_links, link_of, pin_links}
use Rattle.store_pins.specs.Drivers.{driver_number}
use Rattle.timing_defs.proofs.SameNames.{same_is, same_self}
use Rattle.timing_defs.proofs.Members.{some_is, none_in, in_map, in_map_back, in_flat_map, in_flat_map_back, in_filter_map, in_filter_map_back, in_filter, passes_in, kept_in, any_in, any_back, all_in, found_in, number_in}
use Rattle.store_pins.proofs.PinLaws.{HasNumber, pin_told, pin_of_number, inst_told, inst_of_number, own_in, own_back, own_pins, joining}
use Rattle.store_pins.proofs.DriverLaws.{IsDriving, driving, is_the_driver, on_net}

pub then_back : {X Y : Type 0} (f : X → Option Y) (o : Option X) (y : Y) → option_and_then f o ≡ Some y → (x : X) × (o ≡ Some x) × (f x ≡ Some y)
then_back f None y e = absurd (cc)
then_back f (Some x) y e = (x, refl, e)

pub mapped_back : {X Y : Type 0} (f : X → Y) (o : Option X) (y : Y) → option_map f o ≡ Some y → (x : X) × (o ≡ Some x) × (f x ≡ y)
mapped_back f None y e = absurd (cc)
mapped_back f (Some x) y e = (x, refl, some_is e)

pub unless_some : {Y : Type 0} (b : Bool) (o : Option Y) (y : Y) → (if b then None else o) ≡ Some y → (b ≡ false) × (o ≡ Some y)
unless_some true o y e = absurd (cc)
unless_some false o y e = (refl, e)

-- the arc of a cell that an arc between numbers is
pub record IsPlaced (s : Stored) (a : PinArc) : Type 0 where
  pub inst : Inst
  pub inst_in : Contains s.design.insts inst
  pub cell : Cell
  pub cell_is : cell_of s.design Late inst ≡ Some cell
  pub arc : CellArc
  pub arc_in : Contains cell.arcs arc
  pub from : CellPin
  pub from_in : Contains cell.pins from
  pub from_name : from.name ≡ arc.from
  pub from_number : HasNumber s (cell_pin inst from) a.from
  pub to : CellPin
  pub to_in : Contains cell.pins to
  pub to_name : to.name ≡ arc.to
  pub to_dir : same_dir Output to.dir ≡ true
  pub to_number : HasNumber s (cell_pin inst to) a.to
  pub same : pin_arc arc a.from a.to ≡ a

-- the net arc that leads to a number
pub record IsNetArc (s : Stored) (from to : ℕ) : Type 0 where
  pub source : Pin
  pub source_number : HasNumber s source from
  pub sink : Pin
  pub sink_number : HasNumber s sink to
  pub net : List ℕ
  pub its_driver : IsDriving s.design net source
  pub drives : driver s.design net ≡ Some source
  pub sinking : is_driver sink ≡ false
  pub on : net_of sink ≡ Some net

-- an arc from pin to pin
pub record IsLeading (s : Stored) (l : Link) : Type 0 where
  pub from : Pin
  pub from_number : HasNumber s from l.from
  pub to : Pin
  pub to_number : HasNumber s to l.to
  pub walks : Contains (walks_to s.design from) to

module _ (s : Stored) (num : IsNumbered s) (linked : IsLinked s.design) where
  -- the number of a pin that is there
  pub numbered_as : (p : Pin) (n : ℕ) → Contains (pins s.design) p → number_of s.pins (name_of p) ≡ Some n → HasNumber s p n
  numbered_as p n c e =
      let told = pin_told s num linked p c in
      subst (λ (m : ℕ). HasNumber s p m) (some_is (sym told.1.number ∙ e)) told.1

  pub own_pin : (i : Inst) (cell : Cell) (q : CellPin) → Contains s.design.insts i → cell_of s.design Late i ≡ Some cell → Contains cell.pins q
      → Contains (pins s.design) (cell_pin i q)
  own_pin i cell q c e d =
      own_in s.design linked i q c (subst (λ (o : Option Cell). Contains (cell_pins o) q) (sym e) d)

  pub placed_at : (i : Inst) (arc : CellArc) (a : PinArc) → Contains s.design.insts i → Contains (cell_arcs (cell_of s.design Late i)) arc
      → numbered_arc s i arc ≡ Some a → IsPlaced s a
  placed_at i arc a c d e = by (cell_of s.design Late i) refl d
    where
      by : (o : Option Cell) → cell_of s.design Late i ≡ o → Contains (cell_arcs o) arc → IsPlaced s a
      by None h g = absurd (none_in arc g)
      by (Some cell) h g =
          let j = joining s.design linked i cell arc h g in
          let f = then_back (λ from. option_map (pin_arc arc from) (own_number s i arc.to)) (own_number s i arc.from) a e in
          let t = mapped_back (pin_arc arc f.0) (own_number s i arc.to) a f.2 in
          let from_is : f.0 ≡ a.from = ap (λ (x : PinArc). x.from) t.2 in
          let to_is : t.0 ≡ a.to = ap (λ (x : PinArc). x.to) t.2 in
          record {
            inst = i;
            inst_in = c;
            cell = cell;
            cell_is = h;
            arc = arc;
            arc_in = g;
            from = j.from;
            from_in = j.from_within;
            from_name = j.from_name;
            from_number =
                numbered_as (cell_pin i j.from) a.from (own_pin i cell j.from c h j.from_within)
                (ap (λ own. own_number s i own) j.from_name ∙ f.1 ∙ ap Some from_is);
            to = j.to;
            to_in = j.to_within;
            to_name = j.to_name;
            to_dir = j.to_dir;
            to_number =
                numbered_as (cell_pin i j.to) a.to (own_pin i cell j.to c h j.to_within)
                (ap (λ own. own_number s i own) j.to_name ∙ t.1 ∙ ap Some to_is);
            same = ap (λ n. pin_arc arc n a.to) (sym from_is) ∙ ap (λ n. pin_arc arc f.0 n) (sym to_is) ∙ t.2;
          }

  pub placed_back : (a : PinArc) → Contains (pin_arcs s) a → IsPlaced s a
  placed_back a c =
      let r = in_flat_map_back (arcs_of s) (range_with_len 0 (length s.insts)) a c in by r.item (inst_numbered s r.item) refl r.inside
    where
      by : (n : ℕ) (o : Option Inst) → inst_numbered s n ≡ o → Contains (option_map_or (inst_arcs s) o []) a → IsPlaced s a
      by n None h g = absurd (none_in a g)
      by n (Some i) h g =
          let m = in_filter_map_back (numbered_arc s i) (cell_arcs (cell_of s.design Late i)) a g in
          placed_at i m.item a (inst_of_number s num linked n i h).within m.within m.same

  pub placed_in : (i : Inst) (arc : CellArc) (a : PinArc) → Contains s.design.insts i → Contains (cell_arcs (cell_of s.design Late i)) arc
      → numbered_arc s i arc ≡ Some a → Contains (pin_arcs s) a
  placed_in i arc a c d e =
      let n = inst_told s num linked i c in
      let inside : Contains (inst_arcs s i) a = in_filter_map (numbered_arc s i) (cell_arcs (cell_of s.design Late i)) arc a d e in
      in_flat_map (arcs_of s) (range_with_len 0 (length s.insts)) n.0 a (number_in (length s.insts) n.0 n.1.below)
      (subst (λ (o : Option Inst). Contains (option_map_or (inst_arcs s) o []) a) (sym n.1.inst) inside)

  -- a net arc into a number
  pub net_arc_back : (from to : ℕ) → before s to ≡ Some from → IsNetArc s from to
  net_arc_back from to e =
      let q = then_back (net_before s) (pin_numbered s to) from e in
      let u = unless_some (is_driver q.0) (option_and_then (driver_number s) (net_of q.0)) from q.2 in
      let n = then_back (driver_number s) (net_of q.0) from u.1 in
      let p = then_back (λ pin. number_of s.pins (name_of pin)) (driver s.design n.0) from n.2 in
      let d = driving s.design n.0 p.0 p.1 in
      record {
        source = p.0;
        source_number = numbered_as p.0 from d.within p.2;
        sink = q.0;
        sink_number = pin_of_number s num linked to q.0 q.1;
        net = n.0;
        its_driver = d;
        drives = p.1;
        sinking = u.0;
        on = n.1;
      }

  -- the net of a pin is listed
  conn_listed : (conns : List Conn) (own net : List ℕ) → list_all (λ conn. option_map_or (is_listed s.design.nets) conn.net true) conns ≡ true
      → conn_net conns own ≡ Some net → is_listed s.design.nets net ≡ true
  conn_listed conns own net all e =
      let c = then_back (λ (conn : Conn). conn.net) (find (λ (conn : Conn). bytes_eq conn.pin own) conns) net e in
      let one = all_in (λ (conn : Conn). option_map_or (is_listed s.design.nets) conn.net true) conns c.0 all (found_in (λ (conn : Conn). bytes_eq conn.pin own) conns c.0 c.1) in
      sym (ap (λ o. option_map_or (is_listed s.design.nets) o true) c.2) ∙ one

  pub net_listed : (p : Pin) (net : List ℕ) → Contains (pins s.design) p → net_of p ≡ Some net → is_listed s.design.nets net ≡ true
  net_listed p net c e = elim (Contains-append_cases (map port_pin s.design.ports) (flat_map (inst_pins s.design) s.design.insts) p c) [
    | inl h ↦
        let m = in_map_back port_pin s.design.ports p h in
        let named : m.item.name ≡ net = some_is (ap net_of m.same ∙ e) in
        sym (ap (is_listed s.design.nets) named) ∙ all_in (λ (port : Port). is_listed s.design.nets port.name) s.design.ports m.item linked.port_nets m.within
    | inr h ↦
        let a = in_flat_map_back (inst_pins s.design) s.design.insts p h in
        let m = in_map_back (cell_pin a.item) (cell_pins (cell_of s.design Late a.item)) p a.inside in
        let f : conn_net a.item.conns m.item.name ≡ Some net = ap net_of m.same ∙ e in
        conn_listed a.item.conns m.item.name net (all_in (joins_nets s.design) s.design.insts a.item linked.nets a.within) f
  ]

  -- an arc of the walks between pins
  pub net_after : (from to : ℕ) (n : IsNetArc s from to) → Contains (if is_driver n.source then sinks_on s.design (net_of n.source) else []) n.sink
  net_after from to n =
      subst (λ (ps : List Pin). Contains ps n.sink)
      (sym (ap (λ b. if b then sinks_on s.design (net_of n.source) else []) n.its_driver.drives ∙ ap (sinks_on s.design) n.its_driver.on))
      (in_filter (λ pin. not (is_driver pin) && is_on n.net pin) (pins s.design) n.sink n.sink_number.within
      (and_from (not (is_driver n.sink)) (is_on n.net n.sink) (ap not n.sinking) (ap (λ o. option_map_or (bytes_eq n.net) o false) n.on ∙ same_self n.net)))

  net_leads : (from to : ℕ) → IsNetArc s from to → IsLeading s (link_from to from)
  net_leads from to n = record {
    from = n.source;
    from_number = n.source_number;
    to = n.sink;
    to_number = n.sink_number;
    walks =
        Contains-append_left (if is_driver n.source then sinks_on s.design (net_of n.source) else []) (option_map_or (cell_after s.design n.source) n.source.owner []) n.sink
        (net_after from to n);
  }

  cell_leads : (a : PinArc) → IsPlaced s a → IsLeading s (link_of a)
  cell_leads a p = record {
    from = cell_pin p.inst p.from;
    from_number = p.from_number;
    to = cell_pin p.inst p.to;
    to_number = p.to_number;
    walks =
        Contains-append_right (if is_driver (cell_pin p.inst p.from) then sinks_on s.design (net_of (cell_pin p.inst p.from)) else [])
        (cell_after s.design (cell_pin p.inst p.from) p.inst) (cell_pin p.inst p.to)
        (in_filter (λ to. list_any (arc_joins (cell_pin p.inst p.from) to) (cell_arcs (cell_of s.design Late p.inst))) (inst_pins s.design p.inst) (cell_pin p.inst p.to)
        (in_map (cell_pin p.inst) (cell_pins (cell_of s.design Late p.inst)) p.to (subst (λ (o : Option Cell). Contains (cell_pins o) p.to) (sym p.cell_is) p.to_in))
        (any_in (arc_joins (cell_pin p.inst p.from) (cell_pin p.inst p.to)) (cell_arcs (cell_of s.design Late p.inst)) p.arc
        (subst (λ (o : Option Cell). Contains (cell_arcs o) p.arc) (sym p.cell_is) p.arc_in)
        (and_from (bytes_eq p.arc.from p.from.name) (bytes_eq p.arc.to p.to.name)
        (ap (bytes_eq p.arc.from) p.from_name ∙ same_self p.arc.from) (ap (bytes_eq p.arc.to) p.to_name ∙ same_self p.arc.to))));
  }

  pub links_lead : (l : Link) → Contains (pin_links s) l → IsLeading s l
  links_lead l c = elim (Contains-append_cases (net_links s) (map link_of (pin_arcs s)) l c) [
    | inl h ↦
        let m = in_filter_map_back (link_into s) (range_with_len 0 (length s.pins)) l h in
        let f = mapped_back (link_from m.item) (before s m.item) l m.same in
        subst (λ (k : Link). IsLeading s k) f.2 (net_leads f.0 m.item (net_arc_back f.0 m.item f.1))
    | inr h ↦
        let m = in_map_back link_of (pin_arcs s) l h in
        subst (λ (k : Link). IsLeading s k) m.same (cell_leads m.item (placed_back m.item m.within))
  ]

  -- the pins that a walk leads to are pins of the design
  pub sinks_in : (o : Option (List ℕ)) (q : Pin) → Contains (sinks_on s.design o) q → (net : List ℕ) × (o ≡ Some net) × Contains (pins s.design) q × (is_driver q ≡ false) × (net_of q ≡ Some net)
  sinks_in None q c = absurd (none_in q c)
  sinks_in (Some net) q c =
      let passes = and_parts (not (is_driver q)) (is_on net q) (passes_in (λ pin. not (is_driver pin) && is_on net pin) (pins s.design) q c) in
      (net, refl, kept_in (λ pin. not (is_driver pin) && is_on net pin) (pins s.design) q c, not-true (is_driver q) passes.0, on_net net (net_of q) passes.1)

  module _ (fault : net_fault s.design ≡ None) where
    pub net_link : (p q : Pin) (a b : ℕ) → HasNumber s p a → HasNumber s q b → is_driver p ≡ true → Contains (sinks_on s.design (net_of p)) q
        → Contains (net_links s) (link_from b a)
    net_link p q a b pa qb drives c =
        let k = sinks_in (net_of p) q c in
        let is = is_the_driver s.design fault k.0 p (net_listed p k.0 pa.within k.1) pa.within drives k.1 in
        let into : before s b ≡ Some a =
        ap (option_and_then (net_before s)) qb.pin
        ∙ ap (λ t. if t then None else option_and_then (driver_number s) (net_of q)) k.3
        ∙ ap (option_and_then (driver_number s)) k.4
        ∙ ap (option_and_then (λ pin. number_of s.pins (name_of pin))) is
        ∙ pa.number in
        in_filter_map (link_into s) (range_with_len 0 (length s.pins)) b (link_from b a) (number_in (length s.pins) b qb.below) (ap (option_map (link_from b)) into)

    cell_link : (p q : Pin) (i : Inst) (a b : ℕ) → HasNumber s p a → HasNumber s q b → p.owner ≡ Some i → Contains (cell_after s.design p i) q
        → Contains (pin_links s) (link_from b a)
    cell_link p q i a b pa qb own c =
        let o = own_back s.design linked p i pa.within own in
        let t = own_pins s.design linked i q o.inst (kept_in (λ to. list_any (arc_joins p to) (cell_arcs (cell_of s.design Late i))) (inst_pins s.design i) q c) in
        let arc = any_back (arc_joins p q) (cell_arcs (cell_of s.design Late i)) (passes_in (λ to. list_any (arc_joins p to) (cell_arcs (cell_of s.design Late i))) (inst_pins s.design i) q c) in
        let ends = and_parts (bytes_eq arc.item.from p.own) (bytes_eq arc.item.to q.own) arc.passes in
        let from : own_number s i arc.item.from ≡ Some a =
        ap (own_number s i) (same_is arc.item.from p.own ends.0) ∙ ap (λ (x : Pin). own_number s i x.own) o.same
        ∙ sym (ap (λ (x : Pin). number_of s.pins (name_of x)) o.same) ∙ pa.number in
        let to : own_number s i arc.item.to ≡ Some b =
        ap (own_number s i) (same_is arc.item.to q.own ends.1) ∙ ap (λ (x : Pin). own_number s i x.own) t.same
        ∙ sym (ap (λ (x : Pin). number_of s.pins (name_of x)) t.same) ∙ qb.number in
        let numbered : numbered_arc s i arc.item ≡ Some (pin_arc arc.item a b) =
        ap (λ n. arc_between arc.item n (own_number s i arc.item.to)) from ∙ ap (arc_between arc.item (Some a)) to in
        Contains-append_right (net_links s) (map link_of (pin_arcs s)) (link_from b a)
        (in_map link_of (pin_arcs s) (pin_arc arc.item a b) (placed_in i arc.item (pin_arc arc.item a b) o.inst arc.within numbered))

    pub lead_links : (p q : Pin) (a b : ℕ) → HasNumber s p a → HasNumber s q b → Contains (walks_to s.design p) q → Contains (pin_links s) (link_from b a)
    lead_links p q a b pa qb c =
        elim (Contains-append_cases (if is_driver p then sinks_on s.design (net_of p) else []) (option_map_or (cell_after s.design p) p.owner []) q c) [
          | inl h ↦ by_net (is_driver p) refl h
          | inr h ↦ by_cell p.owner refl h
        ]
      where
        by_net : (t : Bool) → is_driver p ≡ t → Contains (if t then sinks_on s.design (net_of p) else []) q → Contains (pin_links s) (link_from b a)
        by_net true e h = Contains-append_left (net_links s) (map link_of (pin_arcs s)) (link_from b a) (net_link p q a b pa qb e h)
        by_net false e h = absurd (none_in q h)

        by_cell : (o : Option Inst) → p.owner ≡ o → Contains (option_map_or (cell_after s.design p) o []) q → Contains (pin_links s) (link_from b a)
        by_cell None e h = absurd (none_in q h)
        by_cell (Some i) e h = cell_link p q i a b pa qb e h

  pub walks_in : (p q : Pin) → Contains (pins s.design) p → Contains (walks_to s.design p) q → Contains (pins s.design) q
  walks_in p q d c =
      elim (Contains-append_cases (if is_driver p then sinks_on s.design (net_of p) else []) (option_map_or (cell_after s.design p) p.owner []) q c) [
        | inl h ↦ by_net (is_driver p) h
        | inr h ↦ by_cell p.owner refl h
      ]
    where
      by_net : (t : Bool) → Contains (if t then sinks_on s.design (net_of p) else []) q → Contains (pins s.design) q
      by_net true h = (sinks_in (net_of p) q h).2
      by_net false h = absurd (none_in q h)

      by_cell : (o : Option Inst) → p.owner ≡ o → Contains (option_map_or (cell_after s.design p) o []) q → Contains (pins s.design) q
      by_cell None e h = absurd (none_in q h)
      by_cell (Some i) e h =
          let o = own_back s.design linked p i d e in
          let t = own_pins s.design linked i q o.inst (kept_in (λ to. list_any (arc_joins p to) (cell_arcs (cell_of s.design Late i))) (inst_pins s.design i) q h) in
          subst (λ (x : Pin). Contains (pins s.design) x) (sym t.same) (own_in s.design linked i t.pin o.inst t.within)
