-- The clock network by numbers is that of the design.

use Rattle.std.proofs.Common.{◌≡◌, ◌⊎◌, ℕ, ◌-◌, ◌<◌, Bool, true, false, not, List, [], ◌∷◌, map, length, get_or, Option, None, Some, refl, sym, ap, subst, ◌∙◌, inl, inr, arith}
use Rattle.std.specs.Prelude.{nat_eq, option_and_then, option_map, ◌&&◌, if◌then◌else◌, Contains, All}
use Rattle.std.specs.List.{list_any, filter_map, flat_map, range_with_len}
use Rattle.std.specs.Option.{option_map_or, option_to_list}
use Rattle.std.specs.Str.{bytes_eq}
use Rattle.std.proofs.lemmas.Bool.{false≢true, and_parts, and_from, and_left, or_cases, or_left, or_right, eqb-true, not-true, not_from_false, false_from_ne_true}
use Rattle.std.proofs.lemmas.Cmp.{nat_eq_equiv}
use Rattle.std.proofs.lemmas.Option.{cond_some}
use Rattle.std.proofs.lemmas.List.Elements.{Contains-append_left, Contains-append_right, Contains-append_cases, Contains-get_or}
use Rattle.timing_defs.specs.declared.kinds.Split.TheVariants.{Late}
use Rattle.timing_defs.specs.declared.kinds.Dir.{Dir}
use Rattle.timing_defs.specs.declared.kinds.Dir.TheVariants.{Input, Output}
use Rattle.timing_defs.specs.declared.library.Cell.{Cell}
use Rattle.timing_defs.specs.declared.library.CellPin.{CellPin}
use Rattle.timing_defs.specs.declared.library.CellArc.{CellArc}
use Rattle.timing_defs.specs.declared.library.CellTest.{CellTest}
use Rattle.timing_defs.specs.declared.constraints.Clock.{Clock}
use Rattle.timing_defs.specs.declared.netlist.Inst.{Inst}
use Rattle.timing_defs.specs.Netlist.{Pin, name_of, cell_pin, cell_pins, cell_of, inst_pins, pins, full_name, net_of, is_driver, drives_as, driver, same_dir}
use Rattle.timing_defs.specs.Kinds.{comb_kind, is_comb}
use Rattle.timing_rules.specs.Clocking.{cell_arcs, cell_tests, port_has_clock, is_clock_port, clocks_cell, is_clock_pin, driver_on, sinks_on, comb_joins, has_comb, comb_before, comb_after, pins_before, pins_after, from_clock, to_register, is_network}
use Rattle.timing_rules.specs.Rows.{is_input_port}
use Rattle.timing_defs.specs.NetChecks.{net_fault}
use Rattle.timing_rules.specs.Checks.{network_before}
use Rattle.netlist_store.specs.Linked.{IsLinked}
use Rattle.netlist_store.specs.Numbering.{Stored, name_at, number_of, inst_numbered, pin_numbered, IsNumbered}
use Rattle.levelizer.specs.declared.links.Link.{Link}
use Rattle.levelizer.specs.Levels.{AreWithin, AreLevels}
use Rattle.levelizer.specs.Reaching.{has_mark, is_led_to, AreReached}
use Rattle.pin_graph.specs.declared.pin_arcs.PinArc.{PinArc}
use Rattle.pin_graph.specs.Joins.{own_number, pin_arc, arc_between, numbered_arc, pin_arcs, net_before, before, link_from, link_into, net_links, link_of, pin_links}
use Rattle.store_pins.specs.Drivers.{driver_number}
use Rattle.pin_graph.specs.Networks.{is_comb_arc, comb_link, network_links, turned, input_port, port_number, clock_port, clock_ports, edge_from, inst_tests, tests_of, clock_pins, IsNetwork}
use Rattle.timing_defs.proofs.SameNames.{same_is, same_self}
use Rattle.timing_defs.proofs.Members.{some_is, none_in, first_in, in_cases, in_map, in_map_back, in_flat_map, in_flat_map_back, in_filter_map, in_filter_map_back, in_filter, passes_in, kept_in, any_in, any_back, number_in}
use Rattle.store_pins.proofs.PinLaws.{told_at, below_bound, HasNumber, IsOwn, pin_told, pin_of_number, inst_told, inst_of_number, own_in, own_back, own_pins, joining, clocking}
use Rattle.store_pins.proofs.DriverLaws.{driving, on_net}
use Rattle.pin_graph.proofs.JoinLaws.{then_back, mapped_back, unless_some, IsPlaced, IsNetArc, numbered_as, own_pin, placed_back, placed_in, net_arc_back, net_after, links_lead, sinks_in, net_link}
use Rattle.pin_graph.proofs.WalkLaws.{both_same, IsBeside, IsFromPin, steps_are_marks, levels_rise, level_short}

pub dir_flips : (a b : Dir) → same_dir a b ≡ true → same_dir b a ≡ true
dir_flips Input Input h = refl
dir_flips Input Output h = absurd (false≢true h)
dir_flips Output Input h = absurd (false≢true h)
dir_flips Output Output h = refl

pub same_pin_at : (s : Stored) (p q : Pin) (m : ℕ) → HasNumber s p m → HasNumber s q m → p ≡ q
same_pin_at s p q m a b = some_is (sym a.pin ∙ b.pin)

pub moved : (s : Stored) (p : Pin) (m n : ℕ) → m ≡ n → HasNumber s p m → HasNumber s p n
moved s p m n e h = subst (λ (k : ℕ). HasNumber s p k) e h

-- a combinational arc between numbers
pub record IsCombArc (s : Stored) (l : Link) : Type 0 where
  pub arc : PinArc
  pub placed : IsPlaced s arc
  pub comb : is_comb_arc arc ≡ true
  pub same : link_of arc ≡ l

module _ (s : Stored) (num : IsNumbered s) (linked : IsLinked s.design) (fault : net_fault s.design ≡ None) where
  comb_back : (l : Link) → Contains (filter_map comb_link (pin_arcs s)) l → IsCombArc s l
  comb_back l c =
      let m = in_filter_map_back comb_link (pin_arcs s) l c in
      let e = cond_some (is_comb_arc m.item) (link_of m.item) l m.same in
      record { arc = m.item; placed = placed_back s num linked m.item m.within; comb = e.0; same = e.1 }

  net_back : (l : Link) → Contains (net_links s) l → IsNetArc s l.from l.to
  net_back l c =
      let m = in_filter_map_back (link_into s) (range_with_len 0 (length s.pins)) l c in
      let f = mapped_back (link_from m.item) (before s m.item) l m.same in
      subst (λ (k : Link). IsNetArc s k.from k.to) f.2 (net_arc_back s num linked f.0 m.item f.1)

  network_cases : (l : Link) → Contains (network_links s) l → (IsNetArc s l.from l.to) ⊎ (IsCombArc s l)
  network_cases l c = elim (Contains-append_cases (net_links s) (filter_map comb_link (pin_arcs s)) l c) [
    | inl h ↦ inl (net_back l h)
    | inr h ↦ inr (comb_back l h)
  ]

  -- arcs of the network are arcs
  pub network_in : (l : Link) → Contains (network_links s) l → Contains (pin_links s) l
  network_in l c = elim (Contains-append_cases (net_links s) (filter_map comb_link (pin_arcs s)) l c) [
    | inl h ↦ Contains-append_left (net_links s) (map link_of (pin_arcs s)) l h
    | inr h ↦
        let m = in_filter_map_back comb_link (pin_arcs s) l h in
        let e = cond_some (is_comb_arc m.item) (link_of m.item) l m.same in
        Contains-append_right (net_links s) (map link_of (pin_arcs s)) l
        (subst (λ (k : Link). Contains (map link_of (pin_arcs s)) k) e.1 (in_map link_of (pin_arcs s) m.item m.within))
  ]

  pub joins_comb : (a : PinArc) (p : IsPlaced s a) → is_comb_arc a ≡ true → comb_joins (cell_pin p.inst p.from) (cell_pin p.inst p.to) p.arc ≡ true
  joins_comb a p comb =
      let kind : is_comb p.arc ≡ true = ap (λ (x : PinArc). comb_kind x.kind) p.same ∙ comb in
      and_from (is_comb p.arc && bytes_eq p.arc.from p.from.name) (bytes_eq p.arc.to p.to.name)
      (and_from (is_comb p.arc) (bytes_eq p.arc.from p.from.name) kind (ap (bytes_eq p.arc.from) p.from_name ∙ same_self p.arc.from))
      (ap (bytes_eq p.arc.to) p.to_name ∙ same_self p.arc.to)

  joined_comb : (a : PinArc) (p : IsPlaced s a) → is_comb_arc a ≡ true → has_comb s.design p.inst (cell_pin p.inst p.from) (cell_pin p.inst p.to) ≡ true
  joined_comb a p comb =
      any_in (comb_joins (cell_pin p.inst p.from) (cell_pin p.inst p.to)) (cell_arcs (cell_of s.design Late p.inst)) p.arc
      (subst (λ (o : Option Cell). Contains (cell_arcs o) p.arc) (sym p.cell_is) p.arc_in) (joins_comb a p comb)

  its_pin : (i : Inst) (cell : Cell) (q : CellPin) → cell_of s.design Late i ≡ Some cell → Contains cell.pins q → Contains (inst_pins s.design i) (cell_pin i q)
  its_pin i cell q e c = in_map (cell_pin i) (cell_pins (cell_of s.design Late i)) q (subst (λ (o : Option Cell). Contains (cell_pins o) q) (sym e) c)

  -- backward: the pins before a pin
  pub back_before : (p : Pin) (m : ℕ) (l : Link) → HasNumber s p m → Contains (network_links s) l → l.to ≡ m → IsFromPin s (pins_before s.design p) l.from
  back_before p m l h c to = elim (network_cases l c) [
    | inl n ↦
        let same : n.sink ≡ p = same_pin_at s n.sink p m (moved s n.sink l.to m to n.sink_number) h in
        let e : pins_before s.design n.sink ≡ n.source ∷ [] =
        ap (λ b. if b then option_map_or (comb_before s.design n.sink) n.sink.owner [] else driver_on s.design (net_of n.sink)) n.sinking
        ∙ ap (driver_on s.design) n.on ∙ ap option_to_list n.drives in
        record {
          pin = n.source;
          has = n.source_number;
          within =
              subst (λ (x : Pin). Contains (pins_before s.design x) n.source) same
              (subst (λ (ps : List Pin). Contains ps n.source) (sym e) (first_in n.source []));
        }
    | inr a ↦
        let k = a.placed in
        let from : a.arc.from ≡ l.from = ap (λ (x : Link). x.from) a.same in
        let end : a.arc.to ≡ m = ap (λ (x : Link). x.to) a.same ∙ to in
        let same : cell_pin k.inst k.to ≡ p = same_pin_at s (cell_pin k.inst k.to) p m (moved s (cell_pin k.inst k.to) a.arc.to m end k.to_number) h in
        let e : pins_before s.design (cell_pin k.inst k.to) ≡ comb_before s.design (cell_pin k.inst k.to) k.inst =
        ap (λ b. if b then comb_before s.design (cell_pin k.inst k.to) k.inst else driver_on s.design (net_of (cell_pin k.inst k.to))) (dir_flips Output k.to.dir k.to_dir) in
        record {
          pin = cell_pin k.inst k.from;
          has = moved s (cell_pin k.inst k.from) a.arc.from l.from from k.from_number;
          within =
              subst (λ (x : Pin). Contains (pins_before s.design x) (cell_pin k.inst k.from)) same
              (subst (λ (ps : List Pin). Contains ps (cell_pin k.inst k.from)) (sym e)
              (in_filter (λ from. has_comb s.design k.inst from (cell_pin k.inst k.to)) (inst_pins s.design k.inst) (cell_pin k.inst k.from)
              (its_pin k.inst k.cell k.from k.cell_is k.from_in) (joined_comb a.arc k a.comb)));
        }
  ]

  -- a combinational arc of the cell is an arc of the network
  comb_in : (i : Inst) (from to : Pin) (a b : ℕ) → Contains s.design.insts i → HasNumber s from a → HasNumber s to b → IsOwn s.design i from → IsOwn s.design i to
      → has_comb s.design i from to ≡ true → Contains (network_links s) (link_from b a)
  comb_in i from to a b c ha hb own_from own_to has =
      let arc = any_back (comb_joins from to) (cell_arcs (cell_of s.design Late i)) has in
      let one = and_parts (is_comb arc.item && bytes_eq arc.item.from from.own) (bytes_eq arc.item.to to.own) arc.passes in
      let two = and_parts (is_comb arc.item) (bytes_eq arc.item.from from.own) one.0 in
      let na : own_number s i arc.item.from ≡ Some a =
      ap (own_number s i) (same_is arc.item.from from.own two.1) ∙ ap (λ (x : Pin). own_number s i x.own) own_from.same
      ∙ sym (ap (λ (x : Pin). number_of s.pins (name_of x)) own_from.same) ∙ ha.number in
      let nb : own_number s i arc.item.to ≡ Some b =
      ap (own_number s i) (same_is arc.item.to to.own one.1) ∙ ap (λ (x : Pin). own_number s i x.own) own_to.same
      ∙ sym (ap (λ (x : Pin). number_of s.pins (name_of x)) own_to.same) ∙ hb.number in
      let numbered : numbered_arc s i arc.item ≡ Some (pin_arc arc.item a b) =
      ap (λ n. arc_between arc.item n (own_number s i arc.item.to)) na ∙ ap (arc_between arc.item (Some a)) nb in
      Contains-append_right (net_links s) (filter_map comb_link (pin_arcs s)) (link_from b a)
      (in_filter_map comb_link (pin_arcs s) (pin_arc arc.item a b) (link_from b a)
      (placed_in s num linked i arc.item (pin_arc arc.item a b) c arc.within numbered)
      (ap (λ t. if t then Some (link_of (pin_arc arc.item a b)) else None) two.0))

  pub owned_number : (i : Inst) (q : Pin) → IsOwn s.design i q → (n : ℕ) × HasNumber s q n
  owned_number i q o =
      pin_told s num linked q (subst (λ (x : Pin). Contains (pins s.design) x) (sym o.same) (own_in s.design linked i o.pin o.inst o.within))

  beside_before : (p : Pin) (m : ℕ) (q : Pin) → HasNumber s p m → Contains (pins_before s.design p) q → IsBeside s (network_links s) q m
  beside_before p m q h c = by (is_driver p) refl c
    where
      by_cell : (o : Option Inst) → p.owner ≡ o → Contains (option_map_or (comb_before s.design p) o []) q → IsBeside s (network_links s) q m
      by_cell None e d = absurd (none_in q d)
      by_cell (Some i) e d =
          let own = own_back s.design linked p i h.within e in
          let its = own_pins s.design linked i q own.inst (kept_in (λ from. has_comb s.design i from p) (inst_pins s.design i) q d) in
          let n = owned_number i q its in
          record {
            number = n.0;
            has = n.1;
            link = comb_in i q p n.0 m own.inst n.1 h its own (passes_in (λ from. has_comb s.design i from p) (inst_pins s.design i) q d);
          }

      from_driver : is_driver p ≡ false → (net : List ℕ) → net_of p ≡ Some net → (o : Option Pin) → driver s.design net ≡ o → Contains (option_to_list o) q
          → IsBeside s (network_links s) q m
      from_driver e net on None f d = absurd (none_in q d)
      from_driver e net on (Some r) f d = elim (in_cases r [] q d) [
        | inl same ↦
            let is : driver s.design net ≡ Some q = f ∙ ap Some same in
            let dr = driving s.design net q is in
            let n = pin_told s num linked q dr.within in
            let into : before s m ≡ Some n.0 =
            ap (option_and_then (net_before s)) h.pin
            ∙ ap (λ t. if t then None else option_and_then (driver_number s) (net_of p)) e
            ∙ ap (option_and_then (driver_number s)) on
            ∙ ap (option_and_then (λ pin. number_of s.pins (name_of pin))) is
            ∙ n.1.number in
            record {
              number = n.0;
              has = n.1;
              link =
                  Contains-append_left (net_links s) (filter_map comb_link (pin_arcs s)) (link_from m n.0)
                  (in_filter_map (link_into s) (range_with_len 0 (length s.pins)) m (link_from m n.0) (number_in (length s.pins) m h.below) (ap (option_map (link_from m)) into));
            }
        | inr none ↦ absurd (none_in q none)
      ]

      by_net : is_driver p ≡ false → (o : Option (List ℕ)) → net_of p ≡ o → Contains (driver_on s.design o) q → IsBeside s (network_links s) q m
      by_net e None on d = absurd (none_in q d)
      by_net e (Some net) on d = from_driver e net on (driver s.design net) refl d

      by : (t : Bool) → is_driver p ≡ t → Contains (if t then option_map_or (comb_before s.design p) p.owner [] else driver_on s.design (net_of p)) q → IsBeside s (network_links s) q m
      by true e d = by_cell p.owner refl d
      by false e d = by_net e (net_of p) refl d

  -- forward: the pins after a pin
  back_after : (p : Pin) (m : ℕ) (l : Link) → HasNumber s p m → Contains (map turned (network_links s)) l → l.to ≡ m → IsFromPin s (pins_after s.design p) l.from
  back_after p m l h c to =
      let t = in_map_back turned (network_links s) l c in
      let from : t.item.from ≡ m = ap (λ (x : Link). x.to) t.same ∙ to in
      let end : t.item.to ≡ l.from = ap (λ (x : Link). x.from) t.same in
      elim (network_cases t.item t.within) [
        | inl n ↦
            let same : n.source ≡ p = same_pin_at s n.source p m (moved s n.source t.item.from m from n.source_number) h in
            record {
              pin = n.sink;
              has = moved s n.sink t.item.to l.from end n.sink_number;
              within =
                  subst (λ (x : Pin). Contains (pins_after s.design x) n.sink) same
                  (Contains-append_left (if is_driver n.source then sinks_on s.design (net_of n.source) else []) (option_map_or (comb_after s.design n.source) n.source.owner []) n.sink
                  (net_after s num linked t.item.from t.item.to n));
            }
        | inr a ↦
            let k = a.placed in
            let from2 : a.arc.from ≡ m = ap (λ (x : Link). x.from) a.same ∙ from in
            let end2 : a.arc.to ≡ l.from = ap (λ (x : Link). x.to) a.same ∙ end in
            let same : cell_pin k.inst k.from ≡ p = same_pin_at s (cell_pin k.inst k.from) p m (moved s (cell_pin k.inst k.from) a.arc.from m from2 k.from_number) h in
            record {
              pin = cell_pin k.inst k.to;
              has = moved s (cell_pin k.inst k.to) a.arc.to l.from end2 k.to_number;
              within =
                  subst (λ (x : Pin). Contains (pins_after s.design x) (cell_pin k.inst k.to)) same
                  (Contains-append_right (if is_driver (cell_pin k.inst k.from) then sinks_on s.design (net_of (cell_pin k.inst k.from)) else [])
                  (comb_after s.design (cell_pin k.inst k.from) k.inst) (cell_pin k.inst k.to)
                  (in_filter (λ to. has_comb s.design k.inst (cell_pin k.inst k.from) to) (inst_pins s.design k.inst) (cell_pin k.inst k.to)
                  (its_pin k.inst k.cell k.to k.cell_is k.to_in) (joined_comb a.arc k a.comb)));
            }
      ]

  beside_after : (p : Pin) (m : ℕ) (q : Pin) → HasNumber s p m → Contains (pins_after s.design p) q → IsBeside s (map turned (network_links s)) q m
  beside_after p m q h c =
      elim (Contains-append_cases (if is_driver p then sinks_on s.design (net_of p) else []) (option_map_or (comb_after s.design p) p.owner []) q c) [
        | inl d ↦ by_net (is_driver p) refl d
        | inr d ↦ by_cell p.owner refl d
      ]
    where
      by_net : (t : Bool) → is_driver p ≡ t → Contains (if t then sinks_on s.design (net_of p) else []) q → IsBeside s (map turned (network_links s)) q m
      by_net true e d =
          let k = sinks_in s num linked (net_of p) q d in
          let n = pin_told s num linked q k.2 in
          record {
            number = n.0;
            has = n.1;
            link =
                in_map turned (network_links s) (link_from n.0 m)
                (Contains-append_left (net_links s) (filter_map comb_link (pin_arcs s)) (link_from n.0 m) (net_link s num linked fault p q m n.0 h n.1 e d));
          }
      by_net false e d = absurd (none_in q d)

      by_cell : (o : Option Inst) → p.owner ≡ o → Contains (option_map_or (comb_after s.design p) o []) q → IsBeside s (map turned (network_links s)) q m
      by_cell None e d = absurd (none_in q d)
      by_cell (Some i) e d =
          let own = own_back s.design linked p i h.within e in
          let its = own_pins s.design linked i q own.inst (kept_in (λ to. has_comb s.design i p to) (inst_pins s.design i) q d) in
          let n = owned_number i q its in
          record {
            number = n.0;
            has = n.1;
            link =
                in_map turned (network_links s) (link_from n.0 m)
                (comb_in i p q m n.0 own.inst h n.1 own its (passes_in (λ to. has_comb s.design i p to) (inst_pins s.design i) q d));
          }

  -- the clocks' ports
  port_clock : (p : Pin) (clock : Clock) → is_input_port p ≡ true → Contains s.design.constraints.clocks clock → clock.port ≡ Some (name_of p)
      → is_clock_port s.design p ≡ true
  port_clock p clock input c e = by p.owner refl
    where
      by : (o : Option Inst) → p.owner ≡ o → is_clock_port s.design p ≡ true
      by (Some i) own = absurd (false≢true (sym (ap (λ x. option_map_or (λ (inst : Inst). false) x true && is_driver p) own) ∙ input))
      by None own =
          let parts = and_parts (option_map_or (λ (inst : Inst). false) p.owner true) (is_driver p) input in
          let dir : same_dir p.dir Input ≡ true = sym (ap (λ o. drives_as o p.dir) own) ∙ parts.1 in
          let named : name_of p ≡ p.own = ap (λ o. full_name o p.own) own in
          ap (λ o. port_has_clock s.design.constraints.clocks o p) own
          ∙ and_from (same_dir p.dir Input) _ dir
          (any_in (λ (k : Clock). option_map_or (bytes_eq p.own) k.port false) s.design.constraints.clocks clock c
          (ap (λ o. option_map_or (bytes_eq p.own) o false) e ∙ ap (bytes_eq p.own) named ∙ same_self p.own))

  clock_port_parts : (p : Pin) → is_clock_port s.design p ≡ true
      → (clock : Clock) × Contains s.design.constraints.clocks clock × (clock.port ≡ Some (name_of p)) × (is_input_port p ≡ true)
  clock_port_parts p e = by p.owner refl
    where
      by : (o : Option Inst) → p.owner ≡ o
          → (clock : Clock) × Contains s.design.constraints.clocks clock × (clock.port ≡ Some (name_of p)) × (is_input_port p ≡ true)
      by (Some i) own = absurd (false≢true (sym (ap (λ o. port_has_clock s.design.constraints.clocks o p) own) ∙ e))
      by None own =
          let parts = and_parts (same_dir p.dir Input) (list_any (λ (k : Clock). option_map_or (bytes_eq p.own) k.port false) s.design.constraints.clocks)
          (sym (ap (λ o. port_has_clock s.design.constraints.clocks o p) own) ∙ e) in
          let r = any_back (λ (k : Clock). option_map_or (bytes_eq p.own) k.port false) s.design.constraints.clocks parts.1 in
          let named : name_of p ≡ p.own = ap (λ o. full_name o p.own) own in (
            r.item,
            r.within,
            on_net p.own r.item.port r.passes ∙ ap Some (sym named),
            and_from (option_map_or (λ (inst : Inst). false) p.owner true) (is_driver p) (ap (λ o. option_map_or (λ (inst : Inst). false) o true) own)
                (ap (λ o. drives_as o p.dir) own ∙ parts.0),
          )

  pub ports_begin : (p : Pin) (m : ℕ) → HasNumber s p m → list_any (nat_eq m) (clock_ports s) ≡ is_clock_port s.design p
  ports_begin p m h =
      both_same (list_any (nat_eq m) (clock_ports s)) (is_clock_port s.design p)
      (λ e.
      let r = any_back (nat_eq m) (clock_ports s) e in
      let k = in_filter_map_back (clock_port s) s.design.constraints.clocks r.item r.within in
      let port = then_back (port_number s) k.item.port r.item k.same in
      let number = then_back (input_port s) (number_of s.pins port.0) r.item port.2 in
      let here = cond_some (option_map_or is_input_port (pin_numbered s number.0) false) number.0 r.item number.2 in
      let at : number.0 ≡ m = here.1 ∙ sym (eqb-true m r.item r.passes) in
      let input : is_input_port p ≡ true = sym (ap (λ o. option_map_or is_input_port o false) (ap (pin_numbered s) at ∙ h.pin)) ∙ here.0 in
      let named : port.0 ≡ name_of p = some_is (sym (told_at s.pins port.0 number.0 number.1) ∙ ap (name_at s.pins) at ∙ h.name) in
      port_clock p k.item input k.within (port.1 ∙ ap Some named))
      (λ e.
      let c = clock_port_parts p e in
      let number : clock_port s c.0 ≡ Some m =
      ap (option_and_then (port_number s)) c.2 ∙ ap (option_and_then (input_port s)) h.number
      ∙ ap (λ o. if option_map_or is_input_port o false then Some m else None) h.pin ∙ ap (λ b. if b then Some m else None) c.3 in
      any_in (nat_eq m) (clock_ports s) m (in_filter_map (clock_port s) s.design.constraints.clocks c.0 m c.1 number) (nat_eq_equiv.refl m))

  -- the registers' clock pins
  from_edge : (p : Pin) (m n : ℕ) → HasNumber s p m → m ≡ n → Contains (filter_map edge_from (pin_arcs s)) n → is_clock_pin s.design p ≡ true
  from_edge p m n h at c =
      let k = in_filter_map_back edge_from (pin_arcs s) n c in
      let u = unless_some (is_comb_arc k.item) (Some k.item.from) n k.same in
      let a = placed_back s num linked k.item k.within in
      let from : k.item.from ≡ m = some_is u.1 ∙ sym at in
      let same : cell_pin a.inst a.from ≡ p = same_pin_at s (cell_pin a.inst a.from) p m (moved s (cell_pin a.inst a.from) k.item.from m from a.from_number) h in
      let kind : is_comb a.arc ≡ false = ap (λ (x : PinArc). comb_kind x.kind) a.same ∙ u.0 in
      subst (λ (x : Pin). is_clock_pin s.design x ≡ true) same
      (or_left (list_any (λ arc. not (is_comb arc) && bytes_eq arc.from a.from.name) (cell_arcs (cell_of s.design Late a.inst)))
      (list_any (λ test. bytes_eq test.clock a.from.name) (cell_tests (cell_of s.design Late a.inst)))
      (any_in (λ arc. not (is_comb arc) && bytes_eq arc.from a.from.name) (cell_arcs (cell_of s.design Late a.inst)) a.arc
      (subst (λ (o : Option Cell). Contains (cell_arcs o) a.arc) (sym a.cell_is) a.arc_in)
      (and_from (not (is_comb a.arc)) (bytes_eq a.arc.from a.from.name) (not_from_false (is_comb a.arc) kind) (ap (bytes_eq a.arc.from) a.from_name ∙ same_self a.arc.from))))

  from_test : (p : Pin) (m n : ℕ) → HasNumber s p m → m ≡ n → Contains (flat_map (tests_of s) (range_with_len 0 (length s.insts))) n → is_clock_pin s.design p ≡ true
  from_test p m n h at c =
      let r = in_flat_map_back (tests_of s) (range_with_len 0 (length s.insts)) n c in by r.item (inst_numbered s r.item) refl r.inside
    where
      in_cell : (i : Inst) (test : CellTest) → Contains s.design.insts i → own_number s i test.clock ≡ Some n
          → (o : Option Cell) → cell_of s.design Late i ≡ o → Contains (cell_tests o) test → is_clock_pin s.design p ≡ true
      in_cell i test ins e None f d = absurd (none_in test d)
      in_cell i test ins e (Some cell) f d =
          let q = clocking s.design linked i cell test f d in
          let pin = own_pin s num linked i cell q.0 ins f q.1 in
          let has = numbered_as s num linked (cell_pin i q.0) n pin (ap (own_number s i) q.2 ∙ e) in
          let same : cell_pin i q.0 ≡ p = same_pin_at s (cell_pin i q.0) p m (moved s (cell_pin i q.0) n m (sym at) has) h in
          subst (λ (x : Pin). is_clock_pin s.design x ≡ true) same
          (or_right (list_any (λ arc. not (is_comb arc) && bytes_eq arc.from q.0.name) (cell_arcs (cell_of s.design Late i)))
          (list_any (λ t. bytes_eq t.clock q.0.name) (cell_tests (cell_of s.design Late i)))
          (any_in (λ t. bytes_eq t.clock q.0.name) (cell_tests (cell_of s.design Late i)) test
          (subst (λ (x : Option Cell). Contains (cell_tests x) test) (sym f) d)
          (ap (bytes_eq test.clock) q.2 ∙ same_self test.clock)))

      by : (k : ℕ) (o : Option Inst) → inst_numbered s k ≡ o → Contains (option_map_or (inst_tests s) o []) n → is_clock_pin s.design p ≡ true
      by k None e d = absurd (none_in n d)
      by k (Some i) e d =
          let t = in_filter_map_back (λ (test : CellTest). own_number s i test.clock) (cell_tests (cell_of s.design Late i)) n d in
          in_cell i t.item (inst_of_number s num linked k i e).within t.same (cell_of s.design Late i) refl t.within

  edge_in : (p : Pin) (m : ℕ) (i : Inst) (arc : CellArc) → HasNumber s p m → IsOwn s.design i p → Contains (cell_arcs (cell_of s.design Late i)) arc
      → is_comb arc ≡ false → bytes_eq arc.from p.own ≡ true → Contains (clock_pins s) m
  edge_in p m i arc h own c edge from = by (cell_of s.design Late i) refl c
    where
      by : (o : Option Cell) → cell_of s.design Late i ≡ o → Contains (cell_arcs o) arc → Contains (clock_pins s) m
      by None e d = absurd (none_in arc d)
      by (Some cell) e d =
          let j = joining s.design linked i cell arc e d in
          let b = pin_told s num linked (cell_pin i j.to) (own_pin s num linked i cell j.to own.inst e j.to_within) in
          let na : own_number s i arc.from ≡ Some m =
          ap (own_number s i) (same_is arc.from p.own from) ∙ ap (λ (x : Pin). own_number s i x.own) own.same
          ∙ sym (ap (λ (x : Pin). number_of s.pins (name_of x)) own.same) ∙ h.number in
          let nb : own_number s i arc.to ≡ Some b.0 = ap (own_number s i) (sym j.to_name) ∙ b.1.number in
          let numbered : numbered_arc s i arc ≡ Some (pin_arc arc m b.0) =
          ap (λ n. arc_between arc n (own_number s i arc.to)) na ∙ ap (arc_between arc (Some m)) nb in
          Contains-append_left (filter_map edge_from (pin_arcs s)) (flat_map (tests_of s) (range_with_len 0 (length s.insts))) m
          (in_filter_map edge_from (pin_arcs s) (pin_arc arc m b.0) m (placed_in s num linked i arc (pin_arc arc m b.0) own.inst c numbered)
          (ap (λ t. if t then None else Some m) edge))

  test_in : (p : Pin) (m : ℕ) (i : Inst) (test : CellTest) → HasNumber s p m → IsOwn s.design i p → Contains (cell_tests (cell_of s.design Late i)) test
      → bytes_eq test.clock p.own ≡ true → Contains (clock_pins s) m
  test_in p m i test h own c clock =
      let n = inst_told s num linked i own.inst in
      let number : own_number s i test.clock ≡ Some m =
      ap (own_number s i) (same_is test.clock p.own clock) ∙ ap (λ (x : Pin). own_number s i x.own) own.same
      ∙ sym (ap (λ (x : Pin). number_of s.pins (name_of x)) own.same) ∙ h.number in
      Contains-append_right (filter_map edge_from (pin_arcs s)) (flat_map (tests_of s) (range_with_len 0 (length s.insts))) m
      (in_flat_map (tests_of s) (range_with_len 0 (length s.insts)) n.0 m (number_in (length s.insts) n.0 n.1.below)
      (subst (λ (o : Option Inst). Contains (option_map_or (inst_tests s) o []) m) (sym n.1.inst)
      (in_filter_map (λ (t : CellTest). own_number s i t.clock) (cell_tests (cell_of s.design Late i)) test m c number)))

  pins_begin : (p : Pin) (m : ℕ) → HasNumber s p m → list_any (nat_eq m) (clock_pins s) ≡ is_clock_pin s.design p
  pins_begin p m h =
      both_same (list_any (nat_eq m) (clock_pins s)) (is_clock_pin s.design p)
      (λ e.
      let r = any_back (nat_eq m) (clock_pins s) e in
      let at = eqb-true m r.item r.passes in
      elim (Contains-append_cases (filter_map edge_from (pin_arcs s)) (flat_map (tests_of s) (range_with_len 0 (length s.insts))) r.item r.within) [
        | inl c ↦ from_edge p m r.item h at c
        | inr c ↦ from_test p m r.item h at c
      ])
      (λ e. any_in (nat_eq m) (clock_pins s) m (by p.owner refl e) (nat_eq_equiv.refl m))
    where
      by : (o : Option Inst) → p.owner ≡ o → option_map_or (clocks_cell s.design p.own) o false ≡ true → Contains (clock_pins s) m
      by None own e = absurd (false≢true e)
      by (Some i) own e =
          let its = own_back s.design linked p i h.within own in
          elim (or_cases (list_any (λ arc. not (is_comb arc) && bytes_eq arc.from p.own) (cell_arcs (cell_of s.design Late i)))
          (list_any (λ test. bytes_eq test.clock p.own) (cell_tests (cell_of s.design Late i))) e) [
            | inl f ↦
                let r = any_back (λ arc. not (is_comb arc) && bytes_eq arc.from p.own) (cell_arcs (cell_of s.design Late i)) f in
                let parts = and_parts (not (is_comb r.item)) (bytes_eq r.item.from p.own) r.passes in
                edge_in p m i r.item h its r.within (not-true (is_comb r.item) parts.0) parts.1
            | inr f ↦
                let r = any_back (λ test. bytes_eq test.clock p.own) (cell_tests (cell_of s.design Late i)) f in
                test_in p m i r.item h its r.within r.passes
          ]

  -- numbers within the bound
  pub network_within : AreWithin (length s.pins) (network_links s)
  network_within = λ k d low.
      let l = links_lead s num linked (get_or (network_links s) k d) (network_in (get_or (network_links s) k d) (Contains-get_or (network_links s) k d low)) in
      (l.from_number.below, l.to_number.below)

  pub turned_within : AreWithin (length s.pins) (map turned (network_links s))
  turned_within = λ k d low.
      let t = in_map_back turned (network_links s) (get_or (map turned (network_links s)) k d) (Contains-get_or (map turned (network_links s)) k d low) in
      let l = links_lead s num linked t.item (network_in t.item t.within) in
      let from : t.item.to ≡ (get_or (map turned (network_links s)) k d).from = ap (λ (x : Link). x.from) t.same in
      let to : t.item.from ≡ (get_or (map turned (network_links s)) k d).to = ap (λ (x : Link). x.to) t.same in
      (subst (λ (n : ℕ). n < length s.pins) from l.to_number.below, subst (λ (n : ℕ). n < length s.pins) to l.from_number.below)

  below_of : (name : List ℕ) (n : ℕ) → number_of s.pins name ≡ Some n → n < length s.pins
  below_of name n e = below_bound s.pins name n (told_at s.pins name n e)

  pub ports_within : All (λ n. n < length s.pins) (clock_ports s)
  ports_within = λ k d low.
      let n = get_or (clock_ports s) k d in
      let c = in_filter_map_back (clock_port s) s.design.constraints.clocks n (Contains-get_or (clock_ports s) k d low) in
      let port = then_back (port_number s) c.item.port n c.same in
      let number = then_back (input_port s) (number_of s.pins port.0) n port.2 in
      let here = cond_some (option_map_or is_input_port (pin_numbered s number.0) false) number.0 n number.2 in
      subst (λ (x : ℕ). x < length s.pins) here.1 (below_of port.0 number.0 number.1)

  pub pins_within : All (λ n. n < length s.pins) (clock_pins s)
  pins_within = λ k d low.
      each (get_or (clock_pins s) k d)
      (Contains-append_cases (filter_map edge_from (pin_arcs s)) (flat_map (tests_of s) (range_with_len 0 (length s.insts))) (get_or (clock_pins s) k d) (Contains-get_or (clock_pins s) k d low))
    where
      by_inst : (n : ℕ) (o : Option Inst) → Contains (option_map_or (inst_tests s) o []) n → n < length s.pins
      by_inst n None d = absurd (none_in n d)
      by_inst n (Some i) d =
          let t = in_filter_map_back (λ (test : CellTest). own_number s i test.clock) (cell_tests (cell_of s.design Late i)) n d in
          below_of (full_name (Some i) t.item.clock) n t.same

      each : (n : ℕ) → Contains (filter_map edge_from (pin_arcs s)) n ⊎ Contains (flat_map (tests_of s) (range_with_len 0 (length s.insts))) n → n < length s.pins
      each n (inl c) =
          let a = in_filter_map_back edge_from (pin_arcs s) n c in
          let u = unless_some (is_comb_arc a.item) (Some a.item.from) n a.same in
          subst (λ (x : ℕ). x < length s.pins) (some_is u.1) (placed_back s num linked a.item a.within).from_number.below
      each n (inr c) =
          let r = in_flat_map_back (tests_of s) (range_with_len 0 (length s.insts)) n c in by_inst n (inst_numbered s r.item) r.inside

  -- what is reached from the clocks' ports and reaches the registers' clock pins
  module _ (levels : List ℕ) (are : AreLevels (length s.pins) (pin_links s) levels) (from to : List Bool)
      (forth : AreReached (length s.pins) (network_links s) (clock_ports s) from)
      (back : AreReached (length s.pins) (map turned (network_links s)) (clock_pins s) to) where
    rises : (l : Link) → Contains (network_links s) l → get_or levels l.from 0 < get_or levels l.to 0
    rises l c =
        let k = links_lead s num linked l (network_in l c) in
        levels_rise (length s.pins) (pin_links s) levels are l (network_in l c) k.to_number.below

    falls : (l : Link) → Contains (map turned (network_links s)) l → length (pins s.design) - get_or levels l.from 0 < length (pins s.design) - get_or levels l.to 0
    falls l c =
        let t = in_map_back turned (network_links s) l c in
        let k = links_lead s num linked t.item (network_in t.item t.within) in
        let up = rises t.item t.within in
        let short = level_short s num linked levels are k.to t.item.to k.to_number in
        let a : get_or levels t.item.to 0 ≡ get_or levels l.from 0 = ap (λ (x : Link). get_or levels x.from 0) t.same in
        let b : get_or levels t.item.from 0 ≡ get_or levels l.to 0 = ap (λ (x : Link). get_or levels x.to 0) t.same in
        omega arith

    from_marks : (p : Pin) (m : ℕ) → HasNumber s p m → from_clock s.design (length (pins s.design)) p ≡ has_mark from m
    from_marks p m h =
        steps_are_marks s (is_clock_port s.design) (pins_before s.design) (from_clock s.design) (network_links s) from (clock_ports s) (λ n. get_or levels n 0)
        (λ q. refl) (λ n q. refl) ports_begin (λ q n k. forth.each n k.below) beside_before back_before rises
        (length (pins s.design)) p m h (let short = level_short s num linked levels are p m h in omega arith)

    to_marks : (p : Pin) (m : ℕ) → HasNumber s p m → to_register s.design (length (pins s.design)) p ≡ has_mark to m
    to_marks p m h =
        steps_are_marks s (is_clock_pin s.design) (pins_after s.design) (to_register s.design) (map turned (network_links s)) to (clock_pins s)
        (λ n. length (pins s.design) - get_or levels n 0)
        (λ q. refl) (λ n q. refl) pins_begin (λ q n k. back.each n k.below) beside_after back_after falls
        (length (pins s.design)) p m h (omega arith)

    network_is : (p : Pin) (m : ℕ) → HasNumber s p m → (has_mark from m && has_mark to m) ≡ is_network s.design p
    unfolding is_network
    network_is p m h =
        sym (ap (λ b. b && to_register s.design (length (pins s.design)) p) (from_marks p m h) ∙ ap (λ b. has_mark from m && b) (to_marks p m h))

    gap : (m : ℕ) → m < length s.pins → pin_numbered s m ≡ None → has_mark from m ≡ false
    gap m low none = false_from_ne_true (has_mark from m) (λ e.
        elim (or_cases (list_any (nat_eq m) (clock_ports s)) (is_led_to (network_links s) from m) (sym (forth.each m low) ∙ e)) [
          | inl f ↦
              let r = any_back (nat_eq m) (clock_ports s) f in
              let k = in_filter_map_back (clock_port s) s.design.constraints.clocks r.item r.within in
              let port = then_back (port_number s) k.item.port r.item k.same in
              let number = then_back (input_port s) (number_of s.pins port.0) r.item port.2 in
              let here = cond_some (option_map_or is_input_port (pin_numbered s number.0) false) number.0 r.item number.2 in
              let at : number.0 ≡ m = here.1 ∙ sym (eqb-true m r.item r.passes) in
              false≢true (sym (ap (λ o. option_map_or is_input_port o false) (ap (pin_numbered s) at ∙ none)) ∙ here.0)
          | inr f ↦
              let r = any_back (λ (arc : Link). nat_eq arc.to m && has_mark from arc.from) (network_links s) f in
              let to_m = eqb-true r.item.to m (and_parts (nat_eq r.item.to m) (has_mark from r.item.from) r.passes).0 in
              let k = links_lead s num linked r.item (network_in r.item r.within) in
              let some : pin_numbered s m ≡ Some k.to = ap (pin_numbered s) (sym to_m) ∙ k.to_number.pin in
              absurd (cc)
        ])

    -- a pin of the network that is no clock's port has a pin of the network before it
    entered : (p : Pin) → Contains (pins s.design) p → is_network s.design p ≡ true → is_clock_port s.design p ≡ false → 0 < length (network_before s.design p)
    entered p c net port =
        let h = pin_told s num linked p c in
        let marked = and_parts (has_mark from h.0) (has_mark to h.0) (network_is p h.0 h.1 ∙ net) in
        elim (or_cases (list_any (nat_eq h.0) (clock_ports s)) (is_led_to (network_links s) from h.0) (sym (forth.each h.0 h.1.below) ∙ marked.0)) [
          | inl f ↦ absurd (false≢true (sym port ∙ sym (ports_begin p h.0 h.1) ∙ f))
          | inr f ↦
              let r = any_back (λ (arc : Link). nat_eq arc.to h.0 && has_mark from arc.from) (network_links s) f in
              let parts = and_parts (nat_eq r.item.to h.0) (has_mark from r.item.from) r.passes in
              let to_h = eqb-true r.item.to h.0 parts.0 in
              let q = back_before p h.0 r.item h.1 r.within to_h in
              let leads : is_led_to (map turned (network_links s)) to r.item.from ≡ true =
              any_in (λ (arc : Link). nat_eq arc.to r.item.from && has_mark to arc.from) (map turned (network_links s)) (turned r.item)
              (in_map turned (network_links s) r.item r.within)
              (and_from (nat_eq r.item.from r.item.from) (has_mark to r.item.to) (nat_eq_equiv.refl r.item.from) (ap (has_mark to) to_h ∙ marked.1)) in
              let ends : has_mark to r.item.from ≡ true =
              back.each r.item.from q.has.below ∙ or_right (list_any (nat_eq r.item.from) (clock_pins s)) (is_led_to (map turned (network_links s)) to r.item.from) leads in
              let is : is_network s.design q.pin ≡ true =
              sym (network_is q.pin r.item.from q.has) ∙ and_from (has_mark from r.item.from) (has_mark to r.item.from) parts.1 ends in
              let member = in_filter (is_network s.design) (pins_before s.design p) q.pin q.within is in
              let low = member.1 in
              omega arith
        ]

    pub marks_are : (marks : List Bool) → length marks ≡ length s.pins → ((m : ℕ) → m < length s.pins → has_mark marks m ≡ (has_mark from m && has_mark to m)) → IsNetwork s marks
    marks_are marks long each = record { count = long; each = λ m low. each m low ∙ by m low (pin_numbered s m) refl; entered = entered }
      where
        by : (m : ℕ) → m < length s.pins → (o : Option Pin) → pin_numbered s m ≡ o → (has_mark from m && has_mark to m) ≡ option_map_or (is_network s.design) o false
        by m low None e = and_left (has_mark from m) (has_mark to m) (gap m low e)
        by m low (Some p) e = network_is p m (pin_of_number s num linked m p e)
