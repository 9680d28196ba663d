-- The parts of a net's report.

use Rattle.std.proofs.Common.{◌≡◌, ℕ, ℤ, Bool, true, false, not, List, [], map, Option, None, Some, Result, Ok, Err, refl, sym, ap, subst, ◌∙◌, inl, inr}
use denote.Ref.{Bor}
use Rattle.std.specs.Prelude.{is_some, ◌&&◌, ◌||◌, if◌then◌else◌, Contains, All, IfOk, option_map, option_and_then}
use Rattle.std.specs.List.{list_all}
use Rattle.std.specs.Option.{option_map_or, option_to_list, unwrap_or}
use Rattle.std.specs.Str.{bytes_eq}
use Rattle.std.proofs.lemmas.Bool.{true≢false, and_parts, and_from, not-true}
use Rattle.std.proofs.lemmas.Option.{none-some}
use Rattle.std.proofs.lemmas.Simd.{map-map}
use Rattle.std.proofs.lemmas.List.Elements.{All-contains, All-contains_itself, All-weaker}
use Rattle.sta_units.specs.Numbers.{is_within}
use Rattle.sta_units.specs.declared.units.Fs.{Fs}
use Rattle.timing_defs.specs.declared.closing.SinkReport.{SinkReport}
use Rattle.timing_defs.specs.declared.closing.WireModel.{WireModel}
use Rattle.timing_defs.specs.declared.faults.QueryFault.{QueryFault}
use Rattle.timing_defs.specs.declared.faults.QueryFault.TheVariants.{UnknownName}
use Rattle.timing_defs.specs.declared.faults.Place.TheVariants.{Net as at_net}
use Rattle.timing_defs.specs.declared.kinds.Split.{Split}
use Rattle.timing_defs.specs.declared.kinds.Split.TheVariants.{Early, Late}
use Rattle.timing_defs.specs.declared.parasitics.NetRc.{NetRc}
use Rattle.timing_defs.specs.declared.design.Design.{Design}
use Rattle.timing_defs.specs.Documents.{is_net_rc}
use Rattle.timing_defs.specs.Firsts.{AreAll}
use Rattle.timing_defs.specs.Netlist.{Pin, name_of, pins, pin_named, net_of, is_on, is_driver, driver, sinks, is_listed, are_distinct}
use Rattle.timing_defs.specs.Wires.{sum_of, res_of, rc_of, pin_cap, net_load, wire_delay}
use Rattle.timing_rules.specs.Closing.{unknown_net}
use Rattle.timing_rules.specs.Clocking.{driver_on}
use Rattle.timing_rules.specs.Connections.{wires_of, sink_delay, sink_report, sink_before, IsSink, as_items, IsNet}
use Rattle.timing_rules.specs.Range.{wires_within, is_large_rc, is_net_origin, either_split, NoOrigin}
use Rattle.timing_rules.specs.Rows.{as_fs}
use Rattle.timing_defs.proofs.Members.{some_is, first_in, in_map, in_map_back, passes_in, kept_in, found_in, all_in}
use Rattle.netlist_store.specs.Linked.{IsLinked}
use Rattle.netlist_store.specs.Numbering.{Stored, name_at, number_of, pin_numbered, IsNumbered}
use Rattle.store_pins.proofs.PinLaws.{pin_found, pin_told, pin_at_number}
use Rattle.store_pins.proofs.DriverLaws.{on_net}
use Rattle.node_rows.specs.declared.pin_wires.PinWire.{PinWire}
use Rattle.node_rows.specs.declared.pin_wires.Wires.{Wires}
use Rattle.node_rows.specs.WireTables.{told_delay, wire_at, load_told, AreWires}
use Rattle.net_reports.specs.Asked.{IsRefusal}
use Rattle.net_reports.specs.Parasitics.{is_fit, items_from, pin_called}
use Rattle.net_reports.specs.Sinks.{pin_under, report_under, IsSinkName, AreSinkNames}
use Rattle.net_reports.proofs.OrderLaws.{all_named}

-- a sink of a net by its name
pub record IsSinkCalled (d : Design) (net name : List ℕ) (p : Pin) : Type 0 where
  pub sink : Contains (sinks d net) p
  pub within : Contains (pins d) p
  pub called : name_of p ≡ name
  pub under : pin_under d name ≡ p
  pub named : pin_named d name ≡ Some p
  pub ends : is_driver p ≡ false
  pub on : net_of p ≡ Some net

module _ (s : Stored) (num : IsNumbered s) (linked : IsLinked s.design) (net : List ℕ) where
  pub sink_called : (name : List ℕ) → IsSinkName s.design net name → (p : Pin) × IsSinkCalled s.design net name p
  sink_called name c =
      let m = in_map_back name_of (sinks s.design net) name c in
      let within = kept_in (λ pin. not (is_driver pin) && is_on net pin) (pins s.design) m.item m.within in
      let passes = and_parts (not (is_driver m.item)) (is_on net m.item) (passes_in (λ pin. not (is_driver pin) && is_on net pin) (pins s.design) m.item m.within) in
      let named : pin_named s.design name ≡ Some m.item = ap (pin_named s.design) (sym m.same) ∙ pin_found s num linked m.item within in (
        m.item,
        record {
          sink = m.within;
          within = within;
          called = m.same;
          under = ap (λ o. unwrap_or o (pin_called name)) named;
          named = named;
          ends = not-true (is_driver m.item) passes.0;
          on = on_net net (net_of m.item) passes.1;
        },
      )

  -- the reports of all sinks, by name
  pub all_sinks : (names : List (List ℕ)) → AreSinkNames s.design net names → AreAll sink_before (IsSink s.design net) (map (report_under s.design net) names)
  all_sinks names are =
      all_named (report_under s.design net) (IsSink s.design net) names
      (record {
        sound = λ n c. (let p = sink_called n (at n c) in (p.0, p.1.sink, ap (sink_report s.design net) p.1.under));
        pin = λ n c. (let p = sink_called n (at n c) in ap name_of p.1.under ∙ p.1.called);
        whole = λ y is. known y is;
      })
      are.rising are.once
    where
      at : (n : List ℕ) → Contains names n → IsSinkName s.design net n
      at n c = All-contains (IsSinkName s.design net) names n are.each c

      known : (y : SinkReport) → IsSink s.design net y → (n : List ℕ) × Contains names n × (y ≡ report_under s.design net n)
      known y (p, c, e) =
          let q = sink_called (name_of p) (in_map name_of (sinks s.design net) p c) in
          let found = pin_found s num linked p (kept_in (λ pin. not (is_driver pin) && is_on net pin) (pins s.design) p c) in
          let same : pin_under s.design (name_of p) ≡ p = q.1.under ∙ some_is (sym q.1.named ∙ found) in
          (name_of p, are.all p c, e ∙ sym (ap (sink_report s.design net) same))

-- each of the names of sinks is one
pub each_sink : (d : Design) (net : List ℕ) (names : List (Bor (List ℕ))) → AreSinkNames d net (map (λ n. n.now) names) → All (λ pin. IsSinkName d net pin.now) names
each_sink d net names are =
    All-weaker (Contains names) (λ pin. IsSinkName d net pin.now)
    (λ x c. All-contains (IsSinkName d net) (map (λ n. n.now) names) x.now are.each (in_map (λ (n : Bor (List ℕ)). n.now) names x c)) names (All-contains_itself names)

-- what is told of a sink
module _ (s : Stored) (num : IsNumbered s) (linked : IsLinked s.design) (net : List ℕ) where
  pub sink_numbered : (name : List ℕ) → IsSinkName s.design net name → number_of s.pins name ≡ None → ⊥
  sink_numbered name c none =
      let p = sink_called s num linked net name c in
      let n = pin_told s num linked p.0 p.1.within in
      none-some n.0 (sym none ∙ ap (number_of s.pins) (sym p.1.called) ∙ n.1.number)

  pub sinks_told : {E : Type 0} (r : Result (List SinkReport) E) (names : List (Bor (List ℕ))) (pins : List (Bor (List ℕ))) → pins ≡ names
      → AreSinkNames s.design net (map (λ n. n.now) names) → IfOk r (λ rows. rows ≡ map (λ pin. report_under s.design net pin.now) pins)
      → IfOk r (AreAll sink_before (IsSink s.design net))
  sinks_told (Err e) names pins same are told = tt
  sinks_told (Ok rows) names pins same are told =
      subst (λ (xs : List SinkReport). AreAll sink_before (IsSink s.design net) xs)
      (map-map (report_under s.design net) (λ (n : Bor (List ℕ)). n.now) names
      ∙ sym (ap (λ (xs : List (Bor (List ℕ))). map (λ n. report_under s.design net n.now) xs) same) ∙ sym told)
      (all_sinks s num linked net (map (λ n. n.now) names) are)

  module _ (w : Wires) (are : AreWires s w) (name : List ℕ) (c : IsSinkName s.design net name) (n : ℕ) (at : name_at s.pins n ≡ Some name) where
    pin_is : (p : Pin) × IsSinkCalled s.design net name p
    pin_is = sink_called s num linked net name c

    here : pin_numbered s n ≡ Some pin_is.0
    here = ap (option_and_then (pin_named s.design)) at ∙ pin_is.1.named

    cap_is : (split : Split) (cap : ℤ) → option_map (pin_cap s.design split) (pin_numbered s n) ≡ Some cap → cap ≡ pin_cap s.design split (pin_under s.design name)
    cap_is split cap e = some_is (sym e ∙ ap (option_map (pin_cap s.design split)) here) ∙ ap (pin_cap s.design split) (sym pin_is.1.under)

    wire_is : (split : Split) (from : Pin) → driver s.design net ≡ Some from → told_delay split (wire_at w.pins n) ≡ wire_delay s.design split net from (pin_under s.design name)
    wire_is split from h =
        let reached : Contains (driver_on s.design (net_of pin_is.0)) from =
        subst (λ (o : Option (List ℕ)). Contains (driver_on s.design o) from) (sym pin_is.1.on)
        (subst (λ (o : Option Pin). Contains (option_to_list o) from) (sym h) (first_in from [])) in
        let wired = are.wires n pin_is.0 from here pin_is.1.ends reached in
        sym (wired.delay split)
        ∙ ap (λ o. wire_delay s.design split (unwrap_or o []) from pin_is.0) pin_is.1.on
        ∙ ap (wire_delay s.design split net from) (sym pin_is.1.under)

    delay_is : (split : Split) (driven : Bool) → driven ≡ is_some (driver s.design net)
        → (if driven then Some (record { 0 = told_delay split (wire_at w.pins n) }) else None) ≡ sink_delay s.design split net (pin_under s.design name)
    delay_is split driven e = by (driver s.design net) refl
      where
        by : (o : Option Pin) → driver s.design net ≡ o
            → (if driven then Some (record { 0 = told_delay split (wire_at w.pins n) }) else None) ≡ sink_delay s.design split net (pin_under s.design name)
        by None h =
            ap (λ (b : Bool). if b then Some (record { 0 = told_delay split (wire_at w.pins n) }) else None) (e ∙ ap is_some h)
            ∙ sym (ap (λ o. as_fs (option_map (λ from. wire_delay s.design split net from (pin_under s.design name)) o)) h)
        by (Some from) h =
            ap (λ (b : Bool). if b then Some (record { 0 = told_delay split (wire_at w.pins n) }) else None) (e ∙ ap is_some h)
            ∙ ap (λ z. as_fs (Some z)) (wire_is split from h)
            ∙ sym (ap (λ o. as_fs (option_map (λ f. wire_delay s.design split net f (pin_under s.design name)) o)) h)

    pub sink_is : (driven : Bool) → driven ≡ is_some (driver s.design net) → (wire : Option PinWire) → wire ≡ wire_at w.pins n
        → (copy : List ℕ) (early late : ℤ) (earliest latest : Option Fs) → copy ≡ name
        → option_map (pin_cap s.design Early) (pin_numbered s n) ≡ Some early → option_map (pin_cap s.design Late) (pin_numbered s n) ≡ Some late
        → earliest ≡ (if driven then Some (record { 0 = told_delay Early wire }) else None) → latest ≡ (if driven then Some (record { 0 = told_delay Late wire }) else None)
        → (record { pin = copy; early_cap = record { 0 = early }; late_cap = record { 0 = late }; early_delay = earliest; late_delay = latest }) ≡ report_under s.design net name
    sink_is driven e wire f copy early late earliest latest same caps more first last =
        λ k. record {
          pin = named k;
          early_cap = record { 0 = cap_is Early early caps k };
          late_cap = record { 0 = cap_is Late late more k };
          early_delay = begins k;
          late_delay = ends k;
        }
      where
        named : copy ≡ name_of (pin_under s.design name)
        named = same ∙ sym pin_is.1.called ∙ ap name_of (sym pin_is.1.under)

        begins : earliest ≡ sink_delay s.design Early net (pin_under s.design name)
        begins = first ∙ ap (λ (o : Option PinWire). if driven then Some (record { 0 = told_delay Early o }) else None) f ∙ delay_is Early driven e

        ends : latest ≡ sink_delay s.design Late net (pin_under s.design name)
        ends = last ∙ ap (λ (o : Option PinWire). if driven then Some (record { 0 = told_delay Late o }) else None) f ∙ delay_is Late driven e

-- a net that is there, and its driver
module _ (s : Stored) (num : IsNumbered s) (linked : IsLinked s.design) (net : List ℕ) where
  pub listed : (n : ℕ) → number_of s.nets net ≡ Some n → is_listed s.design.nets net ≡ true
  listed n e = sym (num.net_names net) ∙ ap is_some e

  pub known_net : (n : ℕ) → number_of s.nets net ≡ Some n → unknown_net s.design net ≡ None
  known_net n e = ap (λ b. if b then None else Some (UnknownName net)) (listed n e)

  pub missing_net : (fault : QueryFault) → number_of s.nets net ≡ None → IsRefusal (Some (UnknownName net)) fault
      → IsRefusal (unknown_net s.design net) fault
  missing_net fault none (inl e) = inl e
  missing_net fault none (inr e) =
      inr (ap (λ b. if b then None else Some (UnknownName net)) (sym (num.net_names net) ∙ ap is_some none) ∙ e)

  module _ (number : ℕ) (at : name_at s.nets number ≡ Some net) where
    pub driver_none : (o : Option ℕ) → option_and_then (pin_numbered s) o ≡ option_and_then (driver s.design) (name_at s.nets number) → o ≡ None
        → None ≡ option_map name_of (driver s.design net)
    driver_none o e none =
        ap (option_map name_of) (sym (ap (option_and_then (pin_numbered s)) none) ∙ e ∙ ap (option_and_then (driver s.design)) at)

    pub driver_called : (o : Option ℕ) → option_and_then (pin_numbered s) o ≡ option_and_then (driver s.design) (name_at s.nets number)
        → (pin : ℕ) (word : List ℕ) → o ≡ Some pin → name_at s.pins pin ≡ Some word → Some word ≡ option_map name_of (driver s.design net)
    driver_called o e pin word some called =
        let p = pin_at_number s num linked pin (ap is_some called) in
        let drives : Some p.0 ≡ driver s.design net =
        sym p.1.pin ∙ sym (ap (option_and_then (pin_numbered s)) some) ∙ e ∙ ap (option_and_then (driver s.design)) at in
        sym called ∙ p.1.name ∙ ap (option_map name_of) drives

    -- numbers of parasitics within their limits
    pub rc_fits : NoOrigin s.design → (o : Option NetRc) → o ≡ option_and_then (rc_of s.design) (name_at s.nets number) → option_map_or is_fit o true ≡ true
    rc_fits none None e = refl
    rc_fits none (Some rc) e =
        let its : rc_of s.design net ≡ Some rc = sym (e ∙ ap (option_and_then (rc_of s.design)) at) in
        let member = found_in (λ (r : NetRc). bytes_eq r.net net) s.design.rcs rc its in
        let good = and_parts (are_distinct (map (λ (r : NetRc). r.net) s.design.rcs)) (list_all is_net_rc s.design.rcs) linked.parasitics in
        let within : is_net_origin s.design net ≡ false =
        ap (λ b. b && is_net_origin s.design net) (sym (listed number (num.nets.distinct number net at))) ∙ none (at_net net) in
        let small : is_large_rc s.design rc ≡ false =
        sym (ap (λ o. option_map_or (is_large_rc s.design) o false) its)
        ∙ (neither (either_split (λ split. not (is_within (net_load s.design split net)))) (option_map_or (is_large_rc s.design) (rc_of s.design net) false) within).1 in
        and_from (is_net_rc rc) (is_within (sum_of res_of rc.ress)) (all_in is_net_rc s.design.rcs rc good.1 member)
        (denied (is_within (sum_of res_of rc.ress)) (neither (not (is_within (sum_of res_of rc.ress))) (either_split (λ split. not (wires_within s.design split rc))) small).0)
      where
        neither : (a b : Bool) → (a || b) ≡ false → (a ≡ false) × (b ≡ false)
        neither false b h = (refl, h)
        neither true b h = absurd (true≢false h)

        denied : (a : Bool) → not a ≡ false → a ≡ true
        denied true h = refl
        denied false h = absurd (true≢false h)

-- the parts of a report
kept_told : (d : Design) (net : List ℕ) (rc : Option NetRc) → rc ≡ rc_of d net → (o : Option Pin)
    → option_and_then (λ name. option_map (items_from name) rc) (option_map name_of o) ≡ option_and_then (λ root. option_map (as_items root) (rc_of d net)) o
kept_told d net rc e None = refl
kept_told d net rc e (Some p) = ap (option_map (as_items p)) e

pub net_is : (d : Design) (net : List ℕ) (root : Option (List ℕ)) (rc : Option NetRc) → root ≡ option_map name_of (driver d net) → rc ≡ rc_of d net
    → (name : Option (List ℕ)) (early late : ℤ) (model : WireModel) (rows : List SinkReport) (kept : Option NetRc)
    → name ≡ root → early ≡ net_load d Early net → late ≡ net_load d Late net → model ≡ wires_of rc
    → AreAll sink_before (IsSink d net) rows → kept ≡ option_and_then (λ n. option_map (items_from n) rc) root
    → IsNet d net (record { driver = name; early_load = record { 0 = early }; late_load = record { 0 = late }; wires = model; sinks = rows; rc = kept })
net_is d net root rc driven its name early late model rows kept same first last wired all told = (
  same ∙ driven,
  first,
  last,
  wired ∙ ap wires_of its,
  all,
  told ∙ ap (option_and_then (λ n. option_map (items_from n) rc)) driven ∙ kept_told d net rc its (driver d net),
)

pub load_is : (s : Stored) (w : Wires) → AreWires s w → (number : ℕ) (net : List ℕ) → name_at s.nets number ≡ Some net → (split : Split) (load : ℤ)
    → load_told w.loads split number ≡ Some load → load ≡ net_load s.design split net
load_is s w are number net at split load e = some_is (sym e ∙ are.loads split number net at)
