-- The names of nets (IEEE 1364, "Vectors"): each bit of a vector is a net, and has a name of its own.
use Rattle.std.specs.Prelude.{ℕ, zero, suc, ◌+◌, ◌-◌, List, [], ◌∷◌, ◌++◌, Bool, ◌&&◌, nat_lt, nat_le, if◌then◌else◌, Option, Some, None}
use Rattle.std.specs.Fmt.{decimal}
use Rattle.verilog_netlist.specs.declared.events.Span.{Span}

-- a bit's name, as a[3], without leading zeros
abbrev pub bit_name : List ℕ → ℕ → List ℕ
bit_name name k = name ++ (91 ∷ (decimal k ++ (93 ∷ [])))

-- how many bits a vector has
abbrev pub width : Span → ℕ
width span = (if nat_lt span.last span.first then span.first - span.last else span.last - span.first) + 1

-- the number of a bit, counted from the vector's first
abbrev pub number_at : Span → ℕ → ℕ
number_at span i = (if nat_lt span.last span.first then span.first - i else span.first + i)

-- the vector has a bit of this number
abbrev pub has_number : Span → ℕ → Bool
has_number span k =
    (if nat_lt span.last span.first then nat_le span.last k && nat_le k span.first else nat_le span.first k && nat_le k span.last)

-- the names of so many bits, from a bit on
unfoldable pub bits : Span → List ℕ → ℕ → ℕ → List (List ℕ)
bits span name i zero = []
bits span name i (suc n) = bit_name name (number_at span i) ∷ bits span name (i + 1) n

-- the nets that a declared name stands for, in the order of its range
unfoldable pub nets_of : Option Span → List ℕ → List (List ℕ)
nets_of None name = name ∷ []
nets_of (Some span) name = bits span name 0 (width span)
