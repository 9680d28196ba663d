-- The pins that drive, and the drivers of nets, by the numbers of a store.

use Rattle.std.specs.Prelude.{ℕ, Bool, false, List, Option, option_and_then}
use Rattle.std.specs.Option.{option_map_or}
use Rattle.timing_defs.specs.Netlist.{name_of, is_driver, driver}
use Rattle.netlist_store.specs.Numbering.{Stored, name_at, number_of, pin_numbered}

-- whether a number is that of a pin that drives
abbrev pub drives_at : Stored → ℕ → Bool
drives_at s pin = option_map_or is_driver (pin_numbered s pin) false

-- the number of a net's driver
abbrev pub driver_number : Stored → List ℕ → Option ℕ
driver_number s net = option_and_then (λ pin. number_of s.pins (name_of pin)) (driver s.design net)

abbrev pub driver_at : Stored → ℕ → Option ℕ
driver_at s net = option_and_then (driver_number s) (name_at s.nets net)
