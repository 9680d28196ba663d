-- The links of one pin, found at its instance and its net.

use Rattle.std.proofs.Common.{◌≡◌, ◌≢◌, ℕ, ◌<◌, ◌==◌, Bool, true, false, not, List, [], ◌++◌, map, filter, length, Option, None, Some, Result, Ok, Err, refl, sym, ap, ◌∙◌, inl, inr}
use Rattle.std.specs.Prelude.{nat_eq, is_some, option_and_then, option_map, if◌then◌else◌, ◌||◌, Contains, All, IfOk}
use Rattle.std.specs.List.{list_any, filter_map, flat_map, range_with_len}
use Rattle.std.specs.Option.{option_map_or}
use Rattle.std.proofs.lemmas.Bool.{cases_Bool, false≢true, true≢false, eqb-true, false_from_ne_true}
use Rattle.std.proofs.lemmas.Cmp.{nat_eq_equiv}
use Rattle.std.proofs.lemmas.List.Elements.{Contains-append_left, Contains-append_right, Contains-append_cases, All-contains}
use Rattle.std.proofs.lemmas.List.Folds.{list_any-append}
use Rattle.sta_units.specs.declared.units.Memory.{Memory}
use Rattle.timing_defs.specs.declared.kinds.Split.TheVariants.{Late}
use Rattle.timing_defs.specs.declared.library.Cell.{Cell}
use Rattle.timing_defs.specs.declared.library.CellPin.{CellPin}
use Rattle.timing_defs.specs.declared.library.CellArc.{CellArc}
use Rattle.timing_defs.specs.declared.library.CellTest.{CellTest}
use Rattle.timing_defs.specs.declared.netlist.Inst.{Inst}
use Rattle.timing_defs.specs.Netlist.{Pin, cell_pin, cell_of, pin_named, net_of, is_driver}
use Rattle.timing_rules.specs.Clocking.{cell_arcs, cell_tests}
use Rattle.netlist_store.specs.Linked.{IsLinked}
use Rattle.netlist_store.specs.Numbering.{Stored, name_at, number_of, is_number, inst_numbered, pin_numbered, owner_number, net_number, is_on_number, IsNumbered}
use Rattle.pin_graph.specs.declared.pin_arcs.PinArc.{PinArc}
use Rattle.pin_graph.specs.Joins.{own_number, pin_arc, numbered_arc, inst_arcs, arcs_of, pin_arcs, before}
use Rattle.store_pins.specs.Drivers.{driver_at}
use Rattle.pin_graph.specs.Networks.{is_comb_arc, edge_from, inst_tests, tests_of, clock_pins}
use Rattle.pin_graph.specs.Pulls.{arcs_into, arcs_from, to_pin, is_driven_by, sinks_of, own_arcs, own_clocks, net_driven, driven_net, is_sink}
use Rattle.timing_defs.proofs.Members.{some_is, none_in, in_filter_map, in_filter_map_back, in_flat_map, in_flat_map_back, in_filter, passes_in, kept_in, any_in, any_back, number_in}
use Rattle.store_pins.proofs.PinLaws.{HasNumber, IsInst, told_at, below_bound, there, inst_of_number, joining, clocking}
use Rattle.pin_graph.proofs.DriverLaws.{before_is}
use Rattle.pin_graph.proofs.JoinLaws.{then_back, mapped_back, unless_some, numbered_as, own_pin, net_arc_back, net_listed}
use Rattle.pin_graph.proofs.WalkLaws.{both_same}
use Rattle.pin_graph.proofs.PullLists.{filter_none, filter_flat, flat_none, flat_one}

-- the net that a pin drives
pub driven_back : (s : Stored) (pin net : ℕ) → driven_net s pin ≡ Some net → (net_number s pin ≡ Some net) × (driver_at s net ≡ Some pin)
driven_back s pin net e =
    let r = then_back (net_driven s pin) (net_number s pin) net e in
    let d = by (driver_at s r.0) r.0 r.2 in
    (r.1 ∙ ap Some d.0, ap (driver_at s) (sym d.0) ∙ d.1)
  where
    by : (o : Option ℕ) (k : ℕ) → (if option_map_or (nat_eq pin) o false then Some k else None) ≡ Some net → (k ≡ net) × (o ≡ Some pin)
    by None k h = absurd (cc)
    by (Some d) k h = elim (cases_Bool (nat_eq pin d)) [
      | inl f ↦ let g : Some k ≡ Some net = rw f at h in (some_is g, ap Some (sym (eqb-true pin d f)))
      | inr f ↦ let g : None ≡ Some net = rw f at h in absurd (cc)
    ]

pub driven_to : (s : Stored) (pin net : ℕ) → net_number s pin ≡ Some net → driver_at s net ≡ Some pin → driven_net s pin ≡ Some net
driven_to s pin net e d =
    ap (option_and_then (net_driven s pin)) e
    ∙ ap (λ o. if option_map_or (nat_eq pin) o false then Some net else None) d
    ∙ ap (λ b. if b then Some net else None) (nat_eq_equiv.refl pin)

-- whether a net arc leads from a pin to another
pub driven_so : (s : Stored) (pin q : ℕ) → is_driven_by s pin q ≡ true → before s q ≡ Some pin
driven_so s pin q e = by (before s q) e
  where
    by : (o : Option ℕ) → option_map_or (nat_eq pin) o false ≡ true → o ≡ Some pin
    by None h = absurd (false≢true h)
    by (Some d) h = ap Some (sym (eqb-true pin d h))

pub driven_by : (s : Stored) (pin q : ℕ) → before s q ≡ Some pin → is_driven_by s pin q ≡ true
driven_by s pin q e = ap (λ o. option_map_or (nat_eq pin) o false) e ∙ nat_eq_equiv.refl pin

-- a sink and its net, driven by a pin
pub record IsSinkOf (s : Stored) (pin q : ℕ) : Type 0 where
  pub net : ℕ
  pub on : net_number s q ≡ Some net
  pub driven : driven_net s pin ≡ Some net
  pub sinks : is_sink s q ≡ true
  pub below : q < length s.pins

gap_pin : (s : Stored) (pin : ℕ) → is_number s.pins pin ≡ false → pin_numbered s pin ≡ None
gap_pin s pin e = by (name_at s.pins pin) e
  where
    by : (o : Option (List ℕ)) → is_some o ≡ false → option_and_then (pin_named s.design) o ≡ None
    by None h = refl
    by (Some name) h = absurd (true≢false h)

-- what is told of a gap
pub gap_owner : (s : Stored) (pin : ℕ) → is_number s.pins pin ≡ false → None ≡ owner_number s pin
gap_owner s pin e =
    sym (ap (λ o. option_and_then (λ (x : Inst). number_of s.insts x.name) (option_and_then (λ (p : Pin). p.owner) o)) (gap_pin s pin e))

pub gap_net : (s : Stored) (pin : ℕ) → is_number s.pins pin ≡ false → None ≡ driven_net s pin
gap_net s pin e = sym (ap (λ o. option_and_then (net_driven s pin) (option_and_then (number_of s.nets) (option_and_then net_of o))) (gap_pin s pin e))

pub driven_none : (s : Stored) (pin : ℕ) → None ≡ net_number s pin → None ≡ driven_net s pin
driven_none s pin e = ap (option_and_then (net_driven s pin)) e

pub driven_some : (s : Stored) (pin net : ℕ) (r : Option ℕ) → Some net ≡ net_number s pin → r ≡ net_driven s pin net → r ≡ driven_net s pin
driven_some s pin net r e is = is ∙ ap (option_and_then (net_driven s pin)) e

pub own_put : (s : Stored) (pin inst : ℕ) (arcs : List PinArc) → owner_number s pin ≡ Some inst → arcs ≡ arcs_of s inst → arcs ≡ own_arcs s pin
own_put s pin inst arcs e is = is ∙ sym (ap (λ o. option_map_or (arcs_of s) o []) e)

pub own_none : (s : Stored) (pin : ℕ) (arcs : List PinArc) → owner_number s pin ≡ None → arcs ≡ [] → arcs ≡ own_arcs s pin
own_none s pin arcs e is = is ∙ sym (ap (λ o. option_map_or (arcs_of s) o []) e)

-- a pin that drives no net
pub sink_told : (s : Stored) (pin : ℕ) (b : Bool) → option_map is_driver (pin_numbered s pin) ≡ Some b → is_sink s pin ≡ not b
sink_told s pin b e = by (pin_numbered s pin) e
  where
    by : (o : Option Pin) → option_map is_driver o ≡ Some b → option_map_or (λ p. not (is_driver p)) o false ≡ not b
    by None h = absurd (cc)
    by (Some p) h = ap not (some_is h)

pub ok_sinks : (s : Stored) (pin : ℕ) (items : List ℕ) (r : Result (List ℕ) Memory) → IfOk r (λ sinks. sinks ≡ filter (is_sink s) items)
    → ((q : ℕ) → list_any (nat_eq q) (filter (is_sink s) items) ≡ list_any (nat_eq q) (sinks_of s pin))
    → IfOk r (λ sinks. (q : ℕ) → list_any (nat_eq q) sinks ≡ list_any (nat_eq q) (sinks_of s pin))
ok_sinks s pin items (Ok sinks) is same = λ q. ap (list_any (nat_eq q)) is ∙ same q
ok_sinks s pin items (Err wanting) is same = tt

-- the sinks, and the pins to which arcs lead
pub heads_put : (s : Stored) (pin n : ℕ) (old new : List ℕ) (arcs : List PinArc) → ((q : ℕ) → list_any (nat_eq q) old ≡ list_any (nat_eq q) (sinks_of s pin))
    → new ≡ old ++ map to_pin arcs → list_any (nat_eq n) new ≡ list_any (nat_eq n) (sinks_of s pin ++ map to_pin arcs)
heads_put s pin n old new arcs had put =
    ap (list_any (nat_eq n)) put ∙ list_any-append (nat_eq n) old (map to_pin arcs)
    ∙ ap (λ b. b || list_any (nat_eq n) (map to_pin arcs)) (had n)
    ∙ sym (list_any-append (nat_eq n) (sinks_of s pin) (map to_pin arcs))

module _ (s : Stored) (num : IsNumbered s) (linked : IsLinked s.design) where
  owner_is : (i : Inst) (q : CellPin) (n m : ℕ) → IsInst s i n → HasNumber s (cell_pin i q) m → owner_number s m ≡ Some n
  owner_is i q n m here h =
      ap (λ o. option_and_then (λ (x : Inst). number_of s.insts x.name) (option_and_then (λ (p : Pin). p.owner) o)) h.pin ∙ here.number

  pub owner_below : (pin n : ℕ) → owner_number s pin ≡ Some n → n < length s.insts
  owner_below pin n e =
      let r = then_back (λ (x : Inst). number_of s.insts x.name) (option_and_then (λ (p : Pin). p.owner) (pin_numbered s pin)) n e in
      below_bound s.insts r.0.name n (told_at s.insts r.0.name n r.2)

  -- the arcs and the tests of an instance are between its own pins
  pub own_ends : (n : ℕ) (a : PinArc) → Contains (arcs_of s n) a → (owner_number s a.from ≡ Some n) × (owner_number s a.to ≡ Some n)
  own_ends n a c = by (inst_numbered s n) refl c
    where
      at : (i : Inst) → IsInst s i n → (arc : CellArc) (o : Option Cell) → cell_of s.design Late i ≡ o → Contains (cell_arcs o) arc
          → numbered_arc s i arc ≡ Some a → (owner_number s a.from ≡ Some n) × (owner_number s a.to ≡ Some n)
      at i here arc None e d made = absurd (none_in arc d)
      at i here arc (Some cell) e d made =
          let j = joining s.design linked i cell arc e d in
          let f = then_back (λ from. option_map (pin_arc arc from) (own_number s i arc.to)) (own_number s i arc.from) a made in
          let t = mapped_back (pin_arc arc f.0) (own_number s i arc.to) a f.2 in
          let from_is : f.0 ≡ a.from = ap (λ (x : PinArc). x.from) t.2 in
          let to_is : t.0 ≡ a.to = ap (λ (x : PinArc). x.to) t.2 in (
            owner_is i j.from n a.from here
                (numbered_as s num linked (cell_pin i j.from) a.from (own_pin s num linked i cell j.from here.within e j.from_within)
                (ap (λ own. own_number s i own) j.from_name ∙ f.1 ∙ ap Some from_is)),
            owner_is i j.to n a.to here
                (numbered_as s num linked (cell_pin i j.to) a.to (own_pin s num linked i cell j.to here.within e j.to_within)
                (ap (λ own. own_number s i own) j.to_name ∙ t.1 ∙ ap Some to_is)),
          )

      by : (o : Option Inst) → inst_numbered s n ≡ o → Contains (option_map_or (inst_arcs s) o []) a → (owner_number s a.from ≡ Some n) × (owner_number s a.to ≡ Some n)
      by None e d = absurd (none_in a d)
      by (Some i) e d =
          let m = in_filter_map_back (numbered_arc s i) (cell_arcs (cell_of s.design Late i)) a d in
          at i (inst_of_number s num linked n i e) m.item (cell_of s.design Late i) refl m.within m.same

  pub own_test : (n k : ℕ) → Contains (tests_of s n) k → owner_number s k ≡ Some n
  own_test n k c = by (inst_numbered s n) refl c
    where
      at : (i : Inst) → IsInst s i n → (test : CellTest) (o : Option Cell) → cell_of s.design Late i ≡ o → Contains (cell_tests o) test
          → own_number s i test.clock ≡ Some k → owner_number s k ≡ Some n
      at i here test None e d made = absurd (none_in test d)
      at i here test (Some cell) e d made =
          let q = clocking s.design linked i cell test e d in
          owner_is i q.0 n k here
          (numbered_as s num linked (cell_pin i q.0) k (own_pin s num linked i cell q.0 here.within e q.1) (ap (λ own. own_number s i own) q.2 ∙ made))

      by : (o : Option Inst) → inst_numbered s n ≡ o → Contains (option_map_or (inst_tests s) o []) k → owner_number s k ≡ Some n
      by None e d = absurd (none_in k d)
      by (Some i) e d =
          let m = in_filter_map_back (λ (test : CellTest). own_number s i test.clock) (cell_tests (cell_of s.design Late i)) k d in
          at i (inst_of_number s num linked n i e) m.item (cell_of s.design Late i) refl m.within m.same

  -- of all arcs those at a pin are among its instance's
  module _ (end : PinArc → ℕ) (ends : (n : ℕ) (a : PinArc) → Contains (arcs_of s n) a → owner_number s (end a) ≡ Some n) (pin : ℕ) where
    at_pin : PinArc → Bool
    at_pin a = end a == pin

    elsewhere : (n : ℕ) → owner_number s pin ≢ Some n → filter (λ a. end a == pin) (arcs_of s n) ≡ []
    elsewhere n other =
        filter_none (λ a. end a == pin) (arcs_of s n) (λ a c. false_from_ne_true (end a == pin) (λ e.
        other (ap (owner_number s) (sym (eqb-true (end a) pin e)) ∙ ends n a c)))

    pub ends_at : filter (λ a. end a == pin) (pin_arcs s) ≡ filter (λ a. end a == pin) (own_arcs s pin)
    ends_at = filter_flat (λ a. end a == pin) (arcs_of s) (range_with_len 0 (length s.insts)) ∙ by (owner_number s pin) refl
      where
        by : (o : Option ℕ) → owner_number s pin ≡ o
            → flat_map (λ n. filter (λ a. end a == pin) (arcs_of s n)) (range_with_len 0 (length s.insts))
            ≡ filter (λ a. end a == pin) (option_map_or (arcs_of s) o [])
        by None e =
            flat_none (λ n. filter (λ a. end a == pin) (arcs_of s n)) (length s.insts) (λ n low. elsewhere n (λ f.
            let bad : None ≡ Some n = sym e ∙ f in absurd (cc)))
        by (Some i) e =
            flat_one (λ n. filter (λ a. end a == pin) (arcs_of s n)) (length s.insts) i (owner_below pin i e) (λ n low other. elsewhere n (λ f.
            other (some_is (sym f ∙ e))))

  pub into_is : (pin : ℕ) → arcs_into s pin ≡ filter (λ arc. arc.to == pin) (own_arcs s pin)
  into_is pin = ends_at (λ (a : PinArc). a.to) (λ n a c. (own_ends n a c).1) pin

  pub from_is : (pin : ℕ) → arcs_from s pin ≡ filter (λ arc. arc.from == pin) (own_arcs s pin)
  from_is pin = ends_at (λ (a : PinArc). a.from) (λ n a c. (own_ends n a c).0) pin

  -- a pin is a register's clock pin where it is one of its instance
  edge_is : (a : PinArc) (k : ℕ) → edge_from a ≡ Some k → a.from ≡ k
  edge_is a k e = some_is (unless_some (is_comb_arc a) (Some a.from) k e).1

  clock_there : (pin n k : ℕ) → nat_eq pin k ≡ true → owner_number s k ≡ Some n → Contains (own_clocks s n) k
      → option_map_or (λ i. list_any (nat_eq pin) (own_clocks s i)) (owner_number s pin) false ≡ true
  clock_there pin n k e own c =
      ap (λ o. option_map_or (λ i. list_any (nat_eq pin) (own_clocks s i)) o false) (ap (owner_number s) (eqb-true pin k e) ∙ own)
      ∙ any_in (nat_eq pin) (own_clocks s n) k c e

  clock_back : (pin : ℕ) (o : Option ℕ) → owner_number s pin ≡ o → option_map_or (λ i. list_any (nat_eq pin) (own_clocks s i)) o false ≡ true
      → list_any (nat_eq pin) (clock_pins s) ≡ true
  clock_back pin None own e = absurd (false≢true e)
  clock_back pin (Some n) own e =
      let r = any_back (nat_eq pin) (own_clocks s n) e in
      let low = number_in (length s.insts) n (owner_below pin n own) in
      any_in (nat_eq pin) (clock_pins s) r.item
      (elim (Contains-append_cases (filter_map edge_from (arcs_of s n)) (tests_of s n) r.item r.within) [
        | inl c ↦
            let m = in_filter_map_back edge_from (arcs_of s n) r.item c in
            Contains-append_left (filter_map edge_from (pin_arcs s)) (flat_map (tests_of s) (range_with_len 0 (length s.insts))) r.item
            (in_filter_map edge_from (pin_arcs s) m.item r.item (in_flat_map (arcs_of s) (range_with_len 0 (length s.insts)) n m.item low m.within) m.same)
        | inr c ↦
            Contains-append_right (filter_map edge_from (pin_arcs s)) (flat_map (tests_of s) (range_with_len 0 (length s.insts))) r.item
            (in_flat_map (tests_of s) (range_with_len 0 (length s.insts)) n r.item low c)
      ]) r.passes

  pub clock_is : (pin : ℕ) → list_any (nat_eq pin) (clock_pins s) ≡ option_map_or (λ i. list_any (nat_eq pin) (own_clocks s i)) (owner_number s pin) false
  clock_is pin =
      both_same (list_any (nat_eq pin) (clock_pins s)) (option_map_or (λ i. list_any (nat_eq pin) (own_clocks s i)) (owner_number s pin) false)
      (λ e.
      let r = any_back (nat_eq pin) (clock_pins s) e in
      elim (Contains-append_cases (filter_map edge_from (pin_arcs s)) (flat_map (tests_of s) (range_with_len 0 (length s.insts))) r.item r.within) [
        | inl c ↦
            let m = in_filter_map_back edge_from (pin_arcs s) r.item c in
            let a = in_flat_map_back (arcs_of s) (range_with_len 0 (length s.insts)) m.item m.within in
            clock_there pin a.item r.item r.passes (ap (owner_number s) (sym (edge_is m.item r.item m.same)) ∙ (own_ends a.item m.item a.inside).0)
            (Contains-append_left (filter_map edge_from (arcs_of s a.item)) (tests_of s a.item) r.item
            (in_filter_map edge_from (arcs_of s a.item) m.item r.item a.inside m.same))
        | inr c ↦
            let a = in_flat_map_back (tests_of s) (range_with_len 0 (length s.insts)) r.item c in
            clock_there pin a.item r.item r.passes (own_test a.item r.item a.inside)
            (Contains-append_right (filter_map edge_from (arcs_of s a.item)) (tests_of s a.item) r.item a.inside)
      ])
      (λ e. clock_back pin (owner_number s pin) refl e)

  -- the sinks of a pin
  pub sink_back : (pin q : ℕ) → before s q ≡ Some pin → IsSinkOf s pin q
  sink_back pin q e =
      let a = net_arc_back s num linked pin q e in
      let number = there (number_of s.nets a.net) (num.net_names a.net ∙ net_listed s num linked a.sink a.net a.sink_number.within a.on) in
      let on : net_number s q ≡ Some number.0 =
      ap (λ o. option_and_then (number_of s.nets) (option_and_then net_of o)) a.sink_number.pin ∙ ap (option_and_then (number_of s.nets)) a.on ∙ number.1 in
      let from : net_number s pin ≡ Some number.0 =
      ap (λ o. option_and_then (number_of s.nets) (option_and_then net_of o)) a.source_number.pin
      ∙ ap (option_and_then (number_of s.nets)) a.its_driver.on ∙ number.1 in
      let drives : driver_at s number.0 ≡ Some pin =
      sym (before_is s q number.0 (ap (option_map is_driver) a.sink_number.pin ∙ ap Some a.sinking) on) ∙ e in
      record {
        net = number.0;
        on = on;
        driven = driven_to s pin number.0 from drives;
        sinks = ap (λ o. option_map_or (λ p. not (is_driver p)) o false) a.sink_number.pin ∙ ap not a.sinking;
        below = a.sink_number.below;
      }

  pub sink_in : (pin q net : ℕ) → driven_net s pin ≡ Some net → net_number s q ≡ Some net → is_sink s q ≡ true → before s q ≡ Some pin
  sink_in pin q net driven on sinks =
      before_is s q net (by (pin_numbered s q) sinks) on ∙ (driven_back s pin net driven).1
    where
      by : (o : Option Pin) → option_map_or (λ p. not (is_driver p)) o false ≡ true → option_map is_driver o ≡ Some false
      by None h = absurd (false≢true h)
      by (Some p) h = ap Some (neg (is_driver p) h)
        where
          neg : (b : Bool) → not b ≡ true → b ≡ false
          neg true k = absurd (false≢true k)
          neg false k = refl

  net_at : (net : ℕ) (o : Option ℕ) → option_map_or (nat_eq net) o false ≡ true → o ≡ Some net
  net_at net None e = absurd (false≢true e)
  net_at net (Some k) e = ap Some (sym (eqb-true net k e))

  pub sinks_are : (pin net : ℕ) (items : List ℕ) → driven_net s pin ≡ Some net
      → All (λ q. is_on_number s net q ≡ true) items → ((q : ℕ) → is_on_number s net q ≡ true → Contains items q)
      → (q : ℕ) → list_any (nat_eq q) (filter (is_sink s) items) ≡ list_any (nat_eq q) (sinks_of s pin)
  sinks_are pin net items driven on all q =
      both_same (list_any (nat_eq q) (filter (is_sink s) items)) (list_any (nat_eq q) (sinks_of s pin))
      (λ e.
      let r = any_back (nat_eq q) (filter (is_sink s) items) e in
      let its = net_at net (net_number s r.item) (All-contains (λ k. is_on_number s net k ≡ true) items r.item on (kept_in (is_sink s) items r.item r.within)) in
      let is = sink_in pin r.item net driven its (passes_in (is_sink s) items r.item r.within) in
      let f = sink_back pin r.item is in
      any_in (nat_eq q) (sinks_of s pin) r.item
      (in_filter (is_driven_by s pin) (range_with_len 0 (length s.pins)) r.item (number_in (length s.pins) r.item f.below) (driven_by s pin r.item is)) r.passes)
      (λ e.
      let r = any_back (nat_eq q) (sinks_of s pin) e in
      let f = sink_back pin r.item (driven_so s pin r.item (passes_in (is_driven_by s pin) (range_with_len 0 (length s.pins)) r.item r.within)) in
      let same : f.net ≡ net = some_is (sym f.driven ∙ driven) in
      any_in (nat_eq q) (filter (is_sink s) items) r.item
      (in_filter (is_sink s) items r.item
      (all r.item (ap (λ o. option_map_or (nat_eq net) o false) f.on ∙ ap (nat_eq net) same ∙ nat_eq_equiv.refl net)) f.sinks) r.passes)

  pub no_sinks : (pin : ℕ) → driven_net s pin ≡ None → sinks_of s pin ≡ []
  no_sinks pin none =
      filter_none (is_driven_by s pin) (range_with_len 0 (length s.pins)) (λ q c. false_from_ne_true (is_driven_by s pin q) (λ e.
      let f = sink_back pin q (driven_so s pin q e) in
      let bad : None ≡ Some f.net = sym none ∙ f.driven in absurd (cc)))
