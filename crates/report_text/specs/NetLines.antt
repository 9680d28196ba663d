-- The first line of the report of a net.

use Rattle.std.specs.Prelude.{ℕ, List, length, ◌++◌, codes}
use Rattle.sta_units.specs.Picoseconds.{ps_text}
use Rattle.timing_defs.specs.declared.closing.NetReport.{NetReport}
use Rattle.timing_defs.specs.Output.{line, word, number, name_text, wires_text}

-- its driver, its load, early and late, its wires, and how many lines follow
abbrev pub net_line : List ℕ → NetReport → List ℕ
net_line net r =
    line
    (codes "net" ++ word net ++ codes " driver" ++ word (name_text r.driver)
    ++ codes " load" ++ word (ps_text r.early_load.0) ++ word (ps_text r.late_load.0)
    ++ codes " parasitics" ++ wires_text r.wires ++ codes " sinks" ++ number (length r.sinks) ++ codes " edits 1")
