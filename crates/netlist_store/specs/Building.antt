-- The tables of a new store: each instance, net and pin has its place in the design as its number (own).

use Rattle.std.specs.Prelude.{◌≡◌, ◌<◌, ℕ, zero, suc, nat_eq, nat_lt, Bool, false, ◌&&◌, if◌then◌else◌, List, [], ◌∷◌, ◌++◌, map, set, length, get_or, slice_get, Option, Some, None, option_and_then, count_by, find}
use Rattle.std.specs.List.{flat_map}
use Rattle.std.specs.Option.{option_map_or}
use Rattle.std.specs.Str.{bytes_eq}
use Rattle.timing_defs.specs.declared.library.Cell.{Cell}
use Rattle.timing_defs.specs.declared.netlist.Port.{Port}
use Rattle.timing_defs.specs.declared.netlist.Inst.{Inst}
use Rattle.timing_defs.specs.declared.parasitics.NetRc.{NetRc}
use Rattle.timing_defs.specs.Netlist.{Pin, port_pin, cell_pin, cell_pins, cell_named, net_of}
use Rattle.netlist_store.specs.declared.tables.PinRow.{PinRow}
use Rattle.netlist_store.specs.Numbering.{name_at, number_of}
use Rattle.netlist_store.specs.Stores.{at}

-- what is told of each pin of an instance, and of all pins, in the order of the design
abbrev pub of_inst_pins : {X : Type 0} → (Pin → X) → List Cell → Inst → List X
of_inst_pins f cells inst = map (λ pin. f (cell_pin inst pin)) (cell_pins (cell_named cells inst.cell))

abbrev pub of_pins : {X : Type 0} → (Pin → X) → List Port → List Cell → List Inst → List X
of_pins f ports cells insts = map (λ port. f (port_pin port)) ports ++ flat_map (of_inst_pins f cells) insts

-- the row of a pin, by the numbers of instances and nets
abbrev pub row_of : List (Option (List ℕ)) → List (Option (List ℕ)) → Pin → PinRow
row_of insts nets pin =
    record {
      owner = option_and_then (λ inst. number_of insts inst.name) pin.owner;
      net = option_and_then (number_of nets) (net_of pin);
      dir = pin.dir;
    }

-- the numbers from 0 on
abbrev pub first_numbers : ℕ → List ℕ
first_numbers zero = []
first_numbers (suc n) = first_numbers n ++ n ∷ []

-- one pin more on a net
abbrev pub with_pin : Option ℕ → ℕ → List (List ℕ) → List (List ℕ)
with_pin None pin lists = lists
with_pin (Some net) pin lists = set lists net (get_or lists net [] ++ pin ∷ [])

-- whether the row of a pin has this net
abbrev pub is_on_row : List PinRow → ℕ → ℕ → Bool
is_on_row rows net pin = option_map_or (λ row. option_map_or (nat_eq net) row.net false) (slice_get rows pin) false

-- each net's list has those of the first pins that are on it, each once
abbrev pub AreNetPins : List PinRow → ℕ → List (List ℕ) → Type 0
AreNetPins rows below lists =
    (net pin : ℕ) → net < length lists
    → count_by (nat_eq pin) (get_or lists net []) ≡ (if nat_lt pin below && is_on_row rows net pin then 1 else 0)

-- the parasitics of a net
abbrev pub rc_named : List NetRc → List ℕ → Option NetRc
rc_named rcs net = find (λ rc. bytes_eq rc.net net) rcs

-- each net's row has its parasitics
pub record AreRcRows (nets : List (Option (List ℕ))) (rcs : List NetRc) (rows : List (Option NetRc)) : Type 0 where
  pub long : length rows ≡ length nets
  pub told : (n : ℕ) → at rows n ≡ option_and_then (rc_named rcs) (name_at nets n)

-- a row that is written where there is a number
abbrev pub with_row : {X : Type 0} → Option ℕ → X → List (Option X) → List (Option X)
with_row None x rows = rows
with_row (Some n) x rows = set rows n (Some x)
