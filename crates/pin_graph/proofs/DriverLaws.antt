-- The drivers of nets and the pins before others, read from their tables.

use Rattle.std.proofs.Common.{◌≡◌, ℕ, ◌<◌, false, true, List, length, get_or, Option, None, Some, sym, ap, ◌∙◌, arith}
use Rattle.std.specs.Prelude.{option_and_then, option_map, if◌then◌else◌}
use Rattle.std.proofs.lemmas.List.FromFn.{get_or-map-range_with_len, length-map-range_with_len}
use Rattle.timing_defs.specs.Netlist.{net_of, is_driver}
use Rattle.netlist_store.specs.Numbering.{Stored, is_number, pin_numbered, net_number}
use Rattle.store_pins.specs.Drivers.{driver_number, driver_at}
use Rattle.store_pins.proofs.DriverLaws.{pin_there, net_of_number, net_below}
use Rattle.pin_graph.specs.Joins.{drivers_of, net_before, before, befores}

pub before_is : (s : Stored) (pin net : ℕ) → option_map is_driver (pin_numbered s pin) ≡ Some false → net_number s pin ≡ Some net
    → before s pin ≡ driver_at s net
before_is s pin net drives on =
    let p = pin_there (pin_numbered s pin) false drives in
    let n = net_of_number s pin net p.0 p.1 on in
    ap (option_and_then (net_before s)) p.1
    ∙ ap (λ b. if b then None else option_and_then (driver_number s) (net_of p.0)) p.2
    ∙ ap (option_and_then (driver_number s)) n.on
    ∙ sym (ap (option_and_then (driver_number s)) n.told)

pub driver_read : (s : Stored) (drivers : List (Option ℕ)) (net : ℕ) → drivers ≡ drivers_of s → is_number s.nets net ≡ true
    → (net < length drivers) × (get_or drivers net None ≡ driver_at s net)
driver_read s drivers net e h =
    let low = net_below s.nets net h in (
      omega (arith, ap length e, length-map-range_with_len (driver_at s) 0 (length s.nets)),
      ap (λ xs. get_or xs net None) e ∙ get_or-map-range_with_len (driver_at s) 0 (length s.nets) net net None low (omega arith),
    )

pub before_read : (s : Stored) (table : List (Option ℕ)) (pin : ℕ) → table ≡ befores s → pin < length s.pins
    → (pin < length table) × (get_or table pin None ≡ before s pin)
before_read s table pin e low = (
  omega (arith, ap length e, length-map-range_with_len (before s) 0 (length s.pins)),
  ap (λ xs. get_or xs pin None) e ∙ get_or-map-range_with_len (before s) 0 (length s.pins) pin pin None low (omega arith),
)
