-- A net that is found anew, as it is put into tables that have the other nets.

use Rattle.std.proofs.Common.{◌≡◌, ℕ, zero, suc, ◌+◌, ◌<◌, true, false, List, [], ◌∷◌, ◌++◌, take, drop, set, length, get_or, Option, None, Some, refl, sym, ap, subst, ◌∙◌, inl, inr, arith, length-set}
use Rattle.std.specs.Prelude.{nat_eq, is_some, slice_get, slice_set, slice_index_or, option_map, if◌then◌else◌, All}
use Rattle.std.specs.List.{list_any}
use Rattle.std.specs.Option.{option_map_or}
use Rattle.std.specs.Str.{bytes_eq}
use Rattle.std.proofs.lemmas.Bool.{cases_Bool, cases_eq, false≢true, false_from_ne_true, eqb-true, eq-eqb}
use Rattle.std.proofs.lemmas.List.{drop_more, take_more}
use Rattle.std.proofs.lemmas.Option.{slice_get_within, get_or_from_slice_get}
use Rattle.timing_defs.specs.declared.kinds.Split.{Split}
use Rattle.timing_defs.specs.Netlist.{is_listed}
use Rattle.timing_rules.specs.Range.{is_net_origin}
use Rattle.netlist_store.specs.Linked.{IsLinked}
use Rattle.netlist_store.specs.Numbering.{Stored, name_at, number_of, is_number, net_number, is_on_number, IsNumbered}
use Rattle.node_rows.specs.declared.pin_wires.PinWire.{PinWire}
use Rattle.node_rows.specs.declared.pin_wires.Wires.{Wires}
use Rattle.node_rows.specs.declared.found_nets.WireTo.{WireTo}
use Rattle.node_rows.specs.declared.found_nets.FoundNet.{FoundNet}
use Rattle.node_rows.specs.WireTables.{split_load, load_told, wire_at, IsWire, AreWires}
use Rattle.node_rows.specs.NetPins.{IsOnNet}
use Rattle.node_rows.specs.NetTrees.{is_wide_net}
use Rattle.node_rows.specs.FoundNets.{with_wires, AreNetWires, IsFoundNet}
use Rattle.node_rows.specs.RenewedNets.{without_wires, AreSized, HasNet, IsRenewed, HaveNetsBut}
use Rattle.node_rows.proofs.LoadLaws.{number_low}
use Rattle.timing_defs.proofs.Members.{any_in, any_back, some_is}
use Rattle.timing_defs.proofs.SameNames.{same_is}
use Rattle.store_pins.proofs.PinLaws.{told_at, below_bound, there}
use Rattle.store_pins.proofs.DriverLaws.{counted_in, net_of_number}
use Rattle.node_rows.proofs.TreeNets.{counted_on}
use Rattle.node_rows.proofs.TreePins.{get_same, get_other, wire_kept}
use Rattle.node_rows.proofs.UpToLaws.{led_net}

-- a table without the wires to some pins
none_same : (table : List (Option PinWire)) (pin : ℕ) → wire_at (set table pin None) pin ≡ None
none_same [] pin = refl
none_same (x ∷ xs) zero = refl
none_same (x ∷ xs) (suc pin) = none_same xs pin

still_none : (table : List (Option PinWire)) (pin other : ℕ) → wire_at table other ≡ None → wire_at (slice_set table pin None) other ≡ None
still_none table pin other none = elim (cases_Bool (nat_eq other pin)) [
  | inl e ↦ ap (λ n. wire_at (slice_set table pin None) n) (eqb-true other pin e) ∙ none_same table pin
  | inr apart ↦ wire_kept table pin other None apart ∙ none
]

bare_long : (pins : List ℕ) (table : List (Option PinWire)) → length (without_wires table pins) ≡ length table
bare_long [] table = refl
bare_long (pin ∷ rest) table = bare_long rest (slice_set table pin None) ∙ length-set table pin None

bare_still : (pins : List ℕ) (table : List (Option PinWire)) (other : ℕ) → wire_at table other ≡ None → wire_at (without_wires table pins) other ≡ None
bare_still [] table other none = none
bare_still (pin ∷ rest) table other none = bare_still rest (slice_set table pin None) other (still_none table pin other none)

bare_there : (pins : List ℕ) (table : List (Option PinWire)) (pin : ℕ) → list_any (nat_eq pin) pins ≡ true → wire_at (without_wires table pins) pin ≡ None
bare_there [] table pin h = absurd (false≢true h)
bare_there (p ∷ ps) table pin h = elim (cases_Bool (nat_eq pin p)) [
  | inl e ↦ bare_still ps (slice_set table p None) pin (ap (λ n. wire_at (slice_set table p None) n) (eqb-true pin p e) ∙ none_same table p)
  | inr apart ↦
      let rest : list_any (nat_eq pin) ps ≡ true = rw apart at h in
      bare_there ps (slice_set table p None) pin rest
]

bare_kept : (pins : List ℕ) (table : List (Option PinWire)) (other : ℕ) → list_any (nat_eq other) pins ≡ false → wire_at (without_wires table pins) other ≡ wire_at table other
bare_kept [] table other h = refl
bare_kept (p ∷ ps) table other h = elim (cases_Bool (nat_eq other p)) [
  | inl e ↦
      let bad : true ≡ false = rw e at h in
      absurd (false≢true (sym bad))
  | inr apart ↦
      let rest : list_any (nat_eq other) ps ≡ false = rw apart at h in
      bare_kept ps (slice_set table p None) other rest ∙ wire_kept table p other None apart
]

-- a write of what is there
set_same : {X : Type 0} (xs : List X) (i : ℕ) (x : X) → slice_get xs i ≡ Some x → xs ≡ slice_set xs i x
set_same [] i x e = refl
set_same (y ∷ ys) zero x e = ap (λ z. z ∷ ys) (some_is e)
set_same (y ∷ ys) (suc i) x e = ap (λ zs. y ∷ zs) (set_same ys i x e)

pub none_set : (table : List (Option PinWire)) (pin : ℕ) (wire : Option PinWire) → slice_get table pin ≡ Some wire → is_some wire ≡ false → table ≡ slice_set table pin None
none_set table pin None e none = set_same table pin None e
none_set table pin (Some wire) e none = absurd (false≢true (sym none))

-- the first items, one more
pub first_more : {X : Type 0} (xs firsts next : List X) (i : ℕ) (x : X) → firsts ≡ take i xs → slice_get xs i ≡ Some x → next ≡ firsts ++ x ∷ [] → next ≡ take (i + 1) xs
first_more xs firsts next i x had is pushed =
    pushed ∙ ap (λ ys. ys ++ x ∷ []) had ∙ ap (λ y. take i xs ++ y ∷ []) (sym (get_or_from_slice_get xs i x x is))
    ∙ sym (take_more xs i x (slice_get_within xs i x is))

-- the places of pins and of what is found, in tables of that length
pub pins_inside : (s : Stored) (pins : List ℕ) (table : List (Option PinWire)) → All (λ pin. is_number s.pins pin ≡ true) pins → length table ≡ length s.pins
    → All (λ pin. pin < length table) pins
pins_inside s pins table numbers long = λ k d low.
    (let below = number_low s.pins (slice_index_or pins k d) (numbers k d low) in omega (arith, below, long))

pub wires_inside : (s : Stored) (found wires : List WireTo) (old table : List (Option PinWire)) (pins : List ℕ) → All (λ to. to.pin < length s.pins) found → wires ≡ found
    → length old ≡ length s.pins → table ≡ without_wires old pins → All (λ to. to.pin < length table) wires
wires_inside s found wires old table pins within same long cleared =
    subst (λ (xs : List WireTo). All (λ to. to.pin < length table) xs) (sym same)
    (λ k d low. (let below = within k d low in omega (arith, below, long, ap length cleared, bare_long pins old)))

-- a net that is found anew
module _ (s : Stored) (net : ℕ) (items : List ℕ) (each : IsOnNet s net items) (number : is_number s.nets net ≡ true) (found : FoundNet) (is : IsFoundNet s net found)
    (w next : Wires) (sized : AreSized s w) (bare : List (Option PinWire)) (cleared : bare ≡ without_wires w.pins items)
    (load : next.loads ≡ slice_set w.loads net found.load) (put : next.pins ≡ with_wires bare found.wires) where
  long : length bare ≡ length s.pins
  long = ap length cleared ∙ bare_long items w.pins ∙ sized.pins

  added : AreNetWires s net bare next.pins
  added = subst (λ (xs : List (Option PinWire)). AreNetWires s net bare xs) (sym put) (is.wires bare long)

  among : (pin : ℕ) → net_number s pin ≡ Some net → list_any (nat_eq pin) items ≡ true
  among pin on =
      let sits : is_on_number s net pin ≡ true = ap (λ o. option_map_or (nat_eq net) o false) on ∙ eq-eqb net net refl in
      any_in (nat_eq pin) items pin (counted_in pin items (each pin ∙ ap (λ b. if b then 1 else 0) sits)) (eq-eqb pin pin refl)

  apart_from : (pin other : ℕ) → net_number s pin ≡ Some other → (other ≡ net → ⊥) → list_any (nat_eq pin) items ≡ false
  apart_from pin other on apart = false_from_ne_true (list_any (nat_eq pin) items) (λ h.
      let r = any_back (nat_eq pin) items h in
      let sits : is_on_number s net pin ≡ true = ap (is_on_number s net) (eqb-true pin r.item r.passes) ∙ counted_on s net items each r.item r.within in
      apart (sym (eqb-true net other (sym (ap (λ o. option_map_or (nat_eq net) o false) on) ∙ sits))))

  below : net < length w.loads
  below =
      let n = there (name_at s.nets net) number in
      let low = below_bound s.nets n.0 net n.1 in
      omega (arith, low, sized.nets)

  wire_left : (pin other : ℕ) → net_number s pin ≡ Some other → (other ≡ net → ⊥) → wire_at next.pins pin ≡ wire_at w.pins pin
  wire_left pin other on apart =
      added.kept pin other on apart ∙ ap (λ xs. wire_at xs pin) cleared ∙ bare_kept items w.pins pin (apart_from pin other on apart)

  load_left : (split : Split) (other : ℕ) → (other ≡ net → ⊥) → load_told next.loads split other ≡ load_told w.loads split other
  load_left split other apart =
      ap (λ xs. load_told xs split other) load ∙ ap (option_map (split_load split)) (get_other w.loads net other found.load apart)

  pub renewed : IsRenewed s net w next
  renewed = record {
    sized = record {
      nets = ap length load ∙ length-set w.loads net found.load ∙ sized.nets;
      pins = added.len ∙ long;
    };
    has = record {
      loads = λ split name named.
          ap (λ xs. load_told xs split net) load ∙ ap (option_map (split_load split)) (get_same w.loads net found.load below) ∙ ap Some (is.load.is split name named);
      within = is.load.within;
      wires = added.wired (λ pin on. ap (λ xs. wire_at xs pin) cleared ∙ bare_there items w.pins pin (among pin on));
      fine = is.fine;
    };
    kept = λ other apart had. record {
      loads = λ split name named. load_left split other apart ∙ had.loads split name named;
      within = had.within;
      wires = λ pin to from told on sinks led.
          subst (λ (o : Option PinWire). IsWire s.design from to o) (sym (wire_left pin other on apart)) (had.wires pin to from told on sinks led);
      fine = had.fine;
    };
  }

-- one name less
module _ (s : Stored) (num : IsNumbered s) (name : List ℕ) (rest : List (List ℕ)) where
  off : (n : ℕ) (other : List ℕ) → name_at s.nets n ≡ Some other → (number_of s.nets name ≡ Some n → ⊥) → is_listed rest other ≡ false → is_listed (name ∷ rest) other ≡ false
  off n other named apart h = elim (cases_Bool (bytes_eq other name)) [
    | inl e ↦ absurd (apart (ap (number_of s.nets) (sym (same_is other name e)) ∙ num.nets.distinct n other named))
    | inr e ↦ rw e h
  ]

  pub renewed_one : (net : ℕ) → number_of s.nets name ≡ Some net → (w next : Wires) → IsRenewed s net w next → HaveNetsBut s (name ∷ rest) w → HaveNetsBut s rest next
  renewed_one net is w next r had = record {
    sized = r.sized;
    nets = λ n other named h. elim (cases_eq n net) [
      | inl e ↦ subst (λ (m : ℕ). HasNet s next m) (sym e) r.has
      | inr apart ↦ r.kept n apart (had.nets n other named (off n other named (λ k. apart (some_is (sym k ∙ is))) h))
    ];
  }

  pub gone_one : number_of s.nets name ≡ None → (w : Wires) → HaveNetsBut s (name ∷ rest) w → HaveNetsBut s rest w
  gone_one none w had = record {
    sized = had.sized;
    nets = λ n other named h. had.nets n other named (off n other named (λ k. let bad : None ≡ Some n = sym none ∙ k in absurd (cc)) h);
  }

pub names_more : (s : Stored) (names : List (List ℕ)) (i : ℕ) (name : List ℕ) → i < length names → name ≡ get_or names i name
    → (w next : Wires) → ((rest : List (List ℕ)) → HaveNetsBut s (name ∷ rest) w → HaveNetsBut s rest next) → HaveNetsBut s (drop i names) w → HaveNetsBut s (drop (i + 1) names) next
names_more s names i name low here w next step had =
    step (drop (i + 1) names)
    (subst (λ (ns : List (List ℕ)). HaveNetsBut s ns w) (drop_more names i name low ∙ ap (λ n. n ∷ drop (i + 1) names) (sym here)) had)

pub told_number : (names : List (Option (List ℕ))) (name : List ℕ) (n : ℕ) → number_of names name ≡ Some n → is_number names n ≡ true
told_number names name n e = ap (λ o. is_some o) (told_at names name n e)

-- all nets
module _ (s : Stored) (w : Wires) (had : HaveNetsBut s [] w) where
  pub every_fine : (net : ℕ) → is_wide_net s net ≡ false
  every_fine net = by (name_at s.nets net) refl
    where
      by : (o : Option (List ℕ)) → name_at s.nets net ≡ o → is_wide_net s net ≡ false
      by None e = ap (λ o. option_map_or (is_net_origin s.design) o false) e
      by (Some name) e = (had.nets net name e refl).fine

  pub every_wire : IsNumbered s → IsLinked s.design → AreWires s w
  every_wire num linked = record {
    nets = had.sized.nets;
    pins = had.sized.pins;
    loads = λ split net name named. (had.nets net name named refl).loads split name named;
    within = λ split net name named. (had.nets net name named refl).within split name named;
    wires = λ pin to from told sinks led.
        (let on = led_net s num linked pin to from told led in
        let k = net_of_number s pin on.0 to told on.1 in
        (had.nets on.0 k.name k.told refl).wires pin to from told on.1 sinks led);
  }
