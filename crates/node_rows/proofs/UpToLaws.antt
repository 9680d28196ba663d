-- The tables of wires, as one more net comes.

use Rattle.std.proofs.Common.{◌≡◌, ℕ, zero, suc, ◌+◌, ◌<◌, ◌≤◌, true, false, List, [], ◌∷◌, ◌++◌, length, Option, None, Some, refl, sym, ap, subst, ◌∙◌, inl, inr, arith, length-append}
use Rattle.std.specs.Prelude.{option_map, option_and_then, Contains, slice_get}
use Rattle.std.specs.Option.{option_map_or}
use Rattle.std.proofs.lemmas.Bool.{cases_eq, cases_lt}
use Rattle.sta_units.specs.Numbers.{is_within}
use Rattle.timing_defs.specs.declared.kinds.Split.{Split}
use Rattle.timing_defs.specs.Netlist.{Pin, net_of, is_driver}
use Rattle.timing_defs.specs.Wires.{net_load}
use Rattle.timing_rules.specs.Clocking.{driver_on}
use Rattle.timing_rules.specs.Range.{is_net_origin}
use Rattle.netlist_store.specs.Linked.{IsLinked}
use Rattle.netlist_store.specs.Numbering.{Stored, name_at, number_of, pin_numbered, net_number, IsNumbered}
use Rattle.node_rows.specs.declared.pin_wires.NetLoad.{NetLoad}
use Rattle.node_rows.specs.declared.pin_wires.PinWire.{PinWire}
use Rattle.node_rows.specs.declared.pin_wires.Wires.{Wires}
use Rattle.node_rows.specs.WireTables.{split_load, load_told, wire_at, IsWire, AreWires}
use Rattle.node_rows.specs.NetTrees.{AreUpTo, is_wide_net}
use Rattle.timing_defs.proofs.Members.{none_in}
use Rattle.store_pins.proofs.PinLaws.{below_bound, pin_of_number, there as some_there}
use Rattle.store_pins.proofs.DriverLaws.{net_of_number}
use Rattle.node_rows.proofs.PinSums.{net_listed}

get_left : {X : Type 0} (xs : List X) (x : X) (n : ℕ) → n < length xs → slice_get (xs ++ x ∷ []) n ≡ slice_get xs n
get_left [] x n low = absurd (omega arith)
get_left (y ∷ ys) x zero low = refl
get_left (y ∷ ys) x (suc n) low = get_left ys x n (omega arith)

get_last : {X : Type 0} (xs : List X) (x : X) → slice_get (xs ++ x ∷ []) (length xs) ≡ Some x
get_last [] x = refl
get_last (y ∷ ys) x = get_last ys x

module _ (s : Stored) where
  module _ (w next : Wires) (bound : ℕ) (load : NetLoad) (had : AreUpTo s w bound) (pushed : next.loads ≡ w.loads ++ load ∷ []) (len : length next.pins ≡ length w.pins) where
    load_kept : (split : Split) (net : ℕ) → net < bound → load_told next.loads split net ≡ load_told w.loads split net
    load_kept split net low =
        ap (λ xs. option_map (split_load split) (slice_get xs net)) pushed
        ∙ ap (option_map (split_load split)) (get_left w.loads load net (let l : net < length w.loads = omega (arith, low, had.nets) in l))

    load_new : (split : Split) → load_told next.loads split bound ≡ Some (split_load split load)
    load_new split =
        ap (λ xs. option_map (split_load split) (slice_get xs bound)) pushed
        ∙ ap (λ n. option_map (split_load split) (slice_get (w.loads ++ load ∷ []) n)) (sym had.nets)
        ∙ ap (option_map (split_load split)) (get_last w.loads load)

    pub more_nets : ((split : Split) (name : List ℕ) → name_at s.nets bound ≡ Some name → (split_load split load ≡ net_load s.design split name) × (is_within (net_load s.design split name) ≡ true))
        → ((pin : ℕ) (to from : Pin) → pin_numbered s pin ≡ Some to → net_number s pin ≡ Some bound → is_driver to ≡ false → Contains (driver_on s.design (net_of to)) from
        → IsWire s.design from to (wire_at next.pins pin))
        → ((pin net : ℕ) → net_number s pin ≡ Some net → (net ≡ bound → ⊥) → wire_at next.pins pin ≡ wire_at w.pins pin)
        → AreUpTo s next (bound + 1)
    more_nets right wired kept =
        record {
          nets = ap length pushed ∙ length-append w.loads (load ∷ []) ∙ ap (λ n. n + 1) had.nets;
          pins = len ∙ had.pins;
          loads = λ split net name low named. elim (cases_eq net bound) [
            | inl e ↦
                ap (load_told next.loads split) e ∙ load_new split
                ∙ ap Some (right split name (ap (name_at s.nets) (sym e) ∙ named)).0
            | inr apart ↦ (let l : net < bound = omega arith in load_kept split net l ∙ had.loads split net name l named)
          ];
          within = λ split net name low named. elim (cases_eq net bound) [
            | inl e ↦ (right split name (ap (name_at s.nets) (sym e) ∙ named)).1
            | inr apart ↦ (let l : net < bound = omega arith in had.within split net name l named)
          ];
          wires = λ pin net to from low told on sinks drives. elim (cases_eq net bound) [
            | inl e ↦ wired pin to from told (on ∙ ap Some e) sinks drives
            | inr apart ↦
                (let l : net < bound = omega arith in
                subst (λ (o : Option PinWire). IsWire s.design from to o) (sym (kept pin net on apart)) (had.wires pin net to from l told on sinks drives))
          ];
          later = λ pin net low on. kept pin net on (λ e. omega (arith, e, low)) ∙ had.later pin net (omega (arith, low)) on;
        }

  -- a pin to which a driver's net leads has the number of its net
  pub led_net : IsNumbered s → IsLinked s.design → (pin : ℕ) (to from : Pin) → pin_numbered s pin ≡ Some to → Contains (driver_on s.design (net_of to)) from
      → (n : ℕ) × (net_number s pin ≡ Some n)
  led_net num linked pin to from told drives = by (net_of to) refl
    where
      by : (o : Option (List ℕ)) → net_of to ≡ o → (n : ℕ) × (net_number s pin ≡ Some n)
      by None e = absurd (none_in from (subst (λ (o : Option (List ℕ)). Contains (driver_on s.design o) from) e drives))
      by (Some name) e =
          let there = pin_of_number s num linked pin to told in
          let n = some_there (number_of s.nets name) (num.net_names name ∙ net_listed s.design linked to name there.within e) in
          (n.0, ap (λ o. option_and_then (number_of s.nets) (option_and_then net_of o)) told ∙ ap (option_and_then (number_of s.nets)) e ∙ n.1)

  -- all nets
  pub all_nets : IsNumbered s → IsLinked s.design → (w : Wires) → AreUpTo s w (length s.nets) → AreWires s w
  all_nets num linked w had =
      record {
        nets = had.nets;
        pins = had.pins;
        loads = λ split net name named. had.loads split net name (below_bound s.nets name net named) named;
        within = λ split net name named. had.within split net name (below_bound s.nets name net named) named;
        wires = λ pin to from told sinks drives.
            (let n = led_net num linked pin to from told drives in
            let k = net_of_number s pin n.0 to told n.1 in
            had.wires pin n.0 to from (below_bound s.nets k.name n.0 k.told) told n.1 sinks drives);
      }

-- the nets below a number are in the tables, and none of them is too large
pub record AreFine (s : Stored) (w : Wires) (bound : ℕ) : Type 0 where
  pub told : AreUpTo s w bound
  pub fine : (net : ℕ) → net < bound → is_wide_net s net ≡ false

none_past : (names : List (Option (List ℕ))) (n : ℕ) → length names ≤ n → name_at names n ≡ None
none_past [] n h = refl
none_past (o ∷ os) zero h = absurd (omega arith)
none_past (o ∷ os) (suc n) h = none_past os n (omega arith)

pub all_fine : (s : Stored) (w : Wires) (bound : ℕ) → bound ≡ length s.nets → AreFine s w bound → (net : ℕ) → is_wide_net s net ≡ false
all_fine s w bound same had net = elim (cases_lt net bound) [
  | inl l ↦ had.fine net l
  | inr h ↦ ap (λ o. option_map_or (is_net_origin s.design) o false) (none_past s.nets net (let l : length s.nets ≤ net = omega arith in l))
]

pub all_wires : (s : Stored) → IsNumbered s → IsLinked s.design → (w : Wires) (bound : ℕ) → bound ≡ length s.nets → AreFine s w bound → AreWires s w
all_wires s num linked w bound same had = all_nets s num linked w (subst (λ (n : ℕ). AreUpTo s w n) same had.told)
