-- The node of outermost arrival on a launch edge, by the numbers of pins.

use Rattle.std.specs.Prelude.{ℕ, ◌+◌, ◌*◌, ℤ, Bool, if◌then◌else◌, List, [], ◌∷◌, Option, Some, None}
use Rattle.std.specs.Option.{option_map_or}
use Rattle.std.specs.Ordering.{int_cmp, ordering_then, is_lt}
use Rattle.std.specs.declared.cmp.Ordering.{Ordering}
use Rattle.timing_defs.specs.declared.kinds.Split.{Split}
use Rattle.timing_defs.specs.declared.kinds.Split.TheVariants.{Early, Late}
use Rattle.timing_defs.specs.declared.kinds.Tran.{Tran}
use Rattle.timing_defs.specs.RowTimes.{times_in, time_on}
use Rattle.netlist_store.specs.Numbering.{Stored}
use Rattle.pin_graph.specs.RowTables.{row_numbered}
use Rattle.path_search.specs.Ranks.{number_cmp}
use Rattle.slack_summaries.specs.declared.outermost.Reached.{Reached}

-- the arrival of the node of a number
abbrev pub arrival_numbered : Stored → Split → ℕ × Tran → ℕ → Option ℤ
arrival_numbered s split edge node = time_on (times_in split (row_numbered s node)) edge

-- the greatest late time comes first, the least early one
abbrev pub split_cmp : Split → ℤ → ℤ → Ordering
split_cmp Early a b = int_cmp a b
split_cmp Late a b = int_cmp b a

abbrev pub reached_cmp : Stored → Split → Reached → Reached → Ordering
reached_cmp s split a b = ordering_then (split_cmp split a.time b.time) (number_cmp s a.node b.node)

abbrev pub goes_first : Stored → Split → Reached → Reached → Bool
goes_first s split a b = is_lt (reached_cmp s split a b)

abbrev pub better : Stored → Split → Option Reached → Reached → Reached
better s split None one = one
better s split (Some best) one = (if goes_first s split one best then one else best)

abbrev pub reached_at : ℕ → ℤ → Reached
reached_at node time = record { node = node; time = time }

abbrev pub with_node : Stored → Split → ℕ × Tran → Option Reached → ℕ → Option Reached
with_node s split edge best node =
    option_map_or (λ time. Some (better s split best (reached_at node time))) (arrival_numbered s split edge node) best

abbrev pub outermost_from : Stored → Split → ℕ × Tran → Option Reached → List ℕ → Option Reached
outermost_from s split edge best [] = best
outermost_from s split edge best (pin ∷ pins) =
    outermost_from s split edge (with_node s split edge (with_node s split edge best (2 * pin)) (2 * pin + 1)) pins
