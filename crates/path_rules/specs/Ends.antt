-- An end of a path as exceptions see it.

use Rattle.std.specs.Prelude.{List, ℕ, Bool, ◌&&◌, ◌||◌, is_none}
use Rattle.std.specs.Str.{bytes_eq}
use Rattle.timing_defs.specs.Names.{as_pin}
use Rattle.timing_rules.specs.Rules.{is_cell}
use Rattle.timing_rules.specs.Rules as rules
use Rattle.path_rules.specs.declared.objects.End.{End}

-- its pin, instance and clock
abbrev pub end_of : End → rules.End
end_of e = record { pin = e.pin.now; cell = e.cell.now; clock = e.clock }

-- a word of no written kind stands for the port, the pin or the instance
abbrev pub is_word_of : rules.End → List ℕ → Bool
is_word_of e name = (is_none e.cell && bytes_eq e.pin name) || bytes_eq e.pin (as_pin name) || is_cell e name
