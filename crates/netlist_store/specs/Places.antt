-- The places of cells by their names (own).

use Rattle.std.specs.Prelude.{◌≡◌, ℕ, List, Option, slice_get, option_and_then}
use Rattle.std.specs.Map.{lookup}
use Rattle.std.specs.Str.{bytes_eq}
use Rattle.timing_defs.specs.declared.library.Cell.{Cell}
use Rattle.timing_defs.specs.Netlist.{cell_named}

-- the place that a map has for a name
abbrev pub place_under : List (List ℕ × ℕ) → List ℕ → Option ℕ
place_under places name = lookup (bytes_eq name) places

-- the map leads to the first cell of each name
abbrev pub ArePlaces : List Cell → List (List ℕ × ℕ) → Type 0
ArePlaces cells places =
    (name : List ℕ) → option_and_then (slice_get cells) (place_under places name) ≡ cell_named cells name
