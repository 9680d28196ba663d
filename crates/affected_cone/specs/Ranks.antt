-- Endpoints as rows of a report, by the numbers of a store.

use Rattle.std.specs.Prelude.{ℕ, ℤ, List, [], Option, option_map}
use Rattle.std.specs.List.{filter_map}
use Rattle.std.specs.Option.{unwrap_or}
use Rattle.timing_defs.specs.declared.kinds.Kind.{Kind}
use Rattle.timing_defs.specs.declared.reports.EndRow.{EndRow}
use Rattle.netlist_store.specs.Numbering.{Stored, name_at}
use Rattle.affected_cone.specs.declared.ends.EndSlacks.{EndSlacks}
use Rattle.affected_cone.specs.declared.ranking.Ranked.{Ranked}
use Rattle.affected_cone.specs.Analysed.{slack_in}

abbrev pub end_row : Ranked → EndRow
end_row ranked = record { pin = ranked.pin.now; slack = ranked.slack }

-- the row of an endpoint that has a slack of a kind
abbrev pub row_with : List ℕ → ℤ → EndRow
row_with name slack = record { pin = name; slack = record { 0 = slack } }

abbrev pub row_of : Stored → Kind → EndSlacks → Option EndRow
row_of s kind end = option_map (row_with (unwrap_or (name_at s.pins end.pin) [])) (slack_in kind end)

abbrev pub rows_of : Stored → Kind → List EndSlacks → List EndRow
rows_of s kind ends = filter_map (row_of s kind) ends
