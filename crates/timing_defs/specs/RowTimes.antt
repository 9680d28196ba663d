-- The times of rows by split and launch edge, and their sums; nothing of a design is in it.

use Rattle.std.specs.Prelude.{ℕ, ℤ, ◌+ℤ◌, List, Option, Some, None, option_map, ◌+◌, nat_eq, ◌&&◌, find}
use Rattle.timing_defs.specs.declared.kinds.Split.{Split}
use Rattle.timing_defs.specs.declared.kinds.Split.TheVariants.{Early, Late}
use Rattle.timing_defs.specs.declared.kinds.Tran.{Tran}
use Rattle.timing_defs.specs.declared.edge_times.EdgeTime.{EdgeTime}
use Rattle.timing_defs.specs.declared.rows.BackRow.{BackRow}
use Rattle.timing_defs.specs.declared.edge_times.LaunchEdge.{LaunchEdge}
use Rattle.timing_defs.specs.declared.rows.NodeRow.{NodeRow}
use Rattle.timing_defs.specs.Netlist.{same_tran}

abbrev pub back_times : Split → BackRow → List EdgeTime
back_times Early row = row.early
back_times Late row = row.late

abbrev pub slew_in : Split → NodeRow → Option ℤ
slew_in Early row = option_map (λ slew. slew.0) row.early_slew
slew_in Late row = option_map (λ slew. slew.0) row.late_slew

-- a launch edge, as the definitions have it
abbrev pub edge_of : LaunchEdge → ℕ × Tran
edge_of edge = (edge.clock, edge.tran)

abbrev pub times_in : Split → NodeRow → List EdgeTime
times_in Early row = row.early
times_in Late row = row.late

abbrev pub time_on : List EdgeTime → ℕ × Tran → Option ℤ
time_on times edge =
    option_map (λ t. t.time.0) (find (λ t. nat_eq t.clock edge.0 && same_tran t.tran edge.1) times)

abbrev pub plus_some : Option ℤ → Option ℤ → Option ℤ
plus_some None y = None
plus_some (Some x) None = None
plus_some (Some x) (Some y) = Some (x +ℤ y)
