-- A net that may be a bit of a vector.
use Rattle.std.specs.Prelude.{ℕ, List, Bool, false, ◌&&◌, Option, Some, None}
use Rattle.std.specs.Str.{bytes_eq}
use Rattle.verilog_netlist.specs.declared.events.Span.{Span}
use Rattle.verilog_netlist.specs.Nets.{bit_name, has_number}

-- the vector has the number that the net's name may give, and the net is that bit
abbrev pub picked : Span → List ℕ → List ℕ → Option ℕ → Bool
picked span name net None = false
picked span name net (Some k) = has_number span k && bytes_eq net (bit_name name k)
