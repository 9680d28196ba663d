-- The pins of a net by the numbers of a store, and their capacitances.

use Rattle.std.specs.Prelude.{ℕ, ℤ, pos, ◌≡◌, nat_eq, count_by, Bool, true, false, not, ◌||◌, if◌then◌else◌, List, []}
use Rattle.std.specs.Option.{option_map_or, unwrap_or}
use Rattle.std.specs.Ordering.{int_eq}
use Rattle.timing_defs.specs.declared.kinds.Split.{Split}
use Rattle.timing_defs.specs.declared.kinds.Split.TheVariants.{Early, Late}
use Rattle.timing_defs.specs.declared.rows.PinCap.{PinCap}
use Rattle.timing_defs.specs.declared.design.Design.{Design}
use Rattle.timing_defs.specs.Netlist.{Pin, is_driver}
use Rattle.timing_defs.specs.Wires.{pin_cap}
use Rattle.netlist_store.specs.Numbering.{Stored, name_at, pin_numbered, is_on_number}

-- numbers are those of the pins on a net, each once
abbrev pub IsOnNet : Stored → ℕ → List ℕ → Type 0
IsOnNet s net pins = (pin : ℕ) → count_by (nat_eq pin) pins ≡ (if is_on_number s net pin then 1 else 0)

-- the capacitance that a pin adds, with or without that of a driver
abbrev pub counted : Design → Split → Bool → Pin → ℤ
counted d split drivers pin = (if drivers || not (is_driver pin) then pin_cap d split pin else pos 0)

abbrev pub cap_at : Stored → Split → Bool → ℕ → ℤ
cap_at s split drivers pin = option_map_or (counted s.design split drivers) (pin_numbered s pin) (pos 0)

abbrev pub pin_cap_at : Stored → Split → ℕ → PinCap
pin_cap_at s split pin = record { pin = unwrap_or (name_at s.pins pin) []; cap = record { 0 = cap_at s split true pin } }

-- a pin has the same capacitance in both splits
abbrev pub has_one_cap : Stored → ℕ → Bool
has_one_cap s pin = int_eq (cap_at s Early true pin) (cap_at s Late true pin)
