-- Names: the identifiers of a netlist (IEEE 1364, "Identifiers"), as lists of bytes.

use Rattle.std.specs.Prelude.{ℕ, nat_eq, Bool, not, ◌&&◌, ◌||◌, if◌then◌else◌, List, [], ◌∷◌, ◌==◌, nat_le, length}
use Rattle.std.specs.List.{list_any, list_all}
use Rattle.std.specs.Cmp.Lexicographic.{pointwise}

-- a word as a pin: split at its last slash or colon
abbrev pub is_split : ℕ → Bool
is_split byte = nat_eq byte 47 || nat_eq byte 58

abbrev pub as_pin : List ℕ → List ℕ
as_pin [] = []
as_pin (b ∷ bs) = (if is_split b && not (list_any is_split bs) then 58 ∷ bs else b ∷ as_pin bs)

-- A printable byte of ASCII that is no blank.
abbrev pub is_graphic : ℕ → Bool
is_graphic byte = nat_le 33 byte && nat_le byte 126

-- The bytes of a name: at least one, all graphic.
abbrev pub is_name : List ℕ → Bool
is_name bytes = not (length bytes == 0) && list_all is_graphic bytes

-- Two names are the same where their bytes are.
abbrev pub same : List ℕ → List ℕ → Bool
same = pointwise ◌==◌
