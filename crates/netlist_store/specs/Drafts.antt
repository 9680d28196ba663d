-- Stores whose design is changed in one list (own).

use Rattle.std.specs.Prelude.{ℕ, ◌≤◌, ◌≡◌, nat_eq, not, true, false, List, [], ◌∷◌, ◌++◌, filter, length, slice_get, find, Bool, ◌&&◌, Option, Some, is_some, option_and_then, option_map, if◌then◌else◌}
use Rattle.std.specs.List.{list_any}
use Rattle.std.specs.Option.{option_map_or}
use Rattle.std.specs.Str.{bytes_eq}
use Rattle.timing_defs.specs.declared.library.CellPin.{CellPin}
use Rattle.timing_defs.specs.declared.netlist.Inst.{Inst}
use Rattle.timing_defs.specs.declared.parasitics.NetRc.{NetRc}
use Rattle.timing_defs.specs.declared.design.Design.{Design}
use Rattle.netlist_store.specs.declared.tables.PinRow.{PinRow}
use Rattle.timing_defs.specs.Netlist.{conn_net}
use Rattle.timing_defs.specs.Edits.{has_colon}
use Rattle.netlist_store.specs.Numbering.{Stored, name_at, number_of, is_number, AreKept}

-- a numbering that edits made of another: common names and numbers agree, and it is no shorter
pub record Follows (before after : List (Option (List ℕ))) : Type 0 where
  pub kept : AreKept before after
  pub longer : length before ≤ length after

-- every name keeps its number
abbrev pub KeepsNames : List (Option (List ℕ)) → List (Option (List ℕ)) → Type 0
KeepsNames before after = (name : List ℕ) (n : ℕ) → number_of before name ≡ Some n → number_of after name ≡ Some n

-- what a table without empty rows has under a name; every number has a row
abbrev pub row_named : {X : Type 0} → List (Option (List ℕ)) → List X → List ℕ → Option X
row_named names rows q = option_and_then (slice_get rows) (number_of names q)

abbrev pub IsFilled : {X : Type 0} → List (Option (List ℕ)) → List X → Type 0
IsFilled names rows = (n : ℕ) → is_number names n ≡ true → is_some (slice_get rows n) ≡ true

-- what a list has at its places, another has there
abbrev pub KeepsItems : {X : Type 0} → List X → List X → Type 0
KeepsItems {X} before after = (n : ℕ) (x : X) → slice_get before n ≡ Some x → slice_get after n ≡ Some x

-- the numbers stay, and the design has other parasitics
abbrev pub with_rcs : Stored → List NetRc → Stored
with_rcs s rcs = record s { design = record s.design { rcs = rcs } }

-- the design has other nets, and they other numbers
abbrev pub with_nets : Stored → List (List ℕ) → List (Option (List ℕ)) → Stored
with_nets s nets numbers = record s { design = record s.design { nets = nets }; nets = numbers }

-- the pins on a net, as one pin joins a net or leaves it
abbrev pub joined_list : Option ℕ → ℕ → ℕ → List ℕ → List ℕ
joined_list to pin net pins = (if option_map_or (nat_eq net) to false then pins ++ pin ∷ [] else pins)

abbrev pub left_list : Option ℕ → ℕ → ℕ → List ℕ → List ℕ
left_list from pin net pins = (if option_map_or (nat_eq net) from false then filter (λ p. not (nat_eq pin p)) pins else pins)

-- the numbers stay, and the design has other instances
abbrev pub with_insts : Stored → List Inst → Stored
with_insts s insts = record s { design = record s.design { insts = insts } }

-- the numbers stay, and the design is another
abbrev pub with_design : Stored → Design → Stored
with_design s d = record s { design = d }

-- the row of a pin of an instance of this number, on the net of its connection
abbrev pub inst_row : List (Option (List ℕ)) → Inst → ℕ → CellPin → PinRow
inst_row nets inst owner pin =
    record { owner = Some owner; net = option_and_then (number_of nets) (conn_net inst.conns pin.name); dir = pin.dir }

-- the row of a pin, by its name, among those of an instance of this name
abbrev pub row_among : List ℕ → (CellPin → PinRow) → List CellPin → List ℕ → Option PinRow
row_among inst row pins q = option_map row (find (λ p. bytes_eq q (inst ++ 58 ∷ p.name)) pins)

-- a pin of an instance goes by this name, and is not among those that stay
abbrev pub is_lost : List ℕ → List CellPin → List ℕ → CellPin → Bool
is_lost inst stay q pin = not (list_any (λ s. bytes_eq s.name pin.name) stay) && bytes_eq q (inst ++ 58 ∷ pin.name)

-- a numbering that has no names but those of another, by their numbers
pub record IsPart (after names : List (Option (List ℕ))) : Type 0 where
  pub at : (n : ℕ) (q : List ℕ) → name_at after n ≡ Some q → name_at names n ≡ Some q
  pub number : (q : List ℕ) (n : ℕ) → number_of after q ≡ Some n → number_of names q ≡ Some n
  pub longer : length names ≤ length after

-- the numberings of a store that edits made of another
pub record FollowsAll (before after : Stored) : Type 0 where
  pub insts : Follows before.insts after.insts
  pub nets : Follows before.nets after.nets
  pub pins : Follows before.pins after.pins

-- a word with a colon that is the name of a pin
abbrev pub is_pin_word : List (Option (List ℕ)) → List ℕ → Bool
is_pin_word pins word = has_colon word && is_some (number_of pins word)
