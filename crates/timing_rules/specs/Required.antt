-- Required times, by recursion over the arcs out, and graph slacks (OpenTimer; TAU 2015 contest).

use Rattle.std.specs.Prelude.{ℕ, zero, suc, ℤ, ◌+ℤ◌, ◌-ℤ◌, is_some, if◌then◌else◌, List, [], filter, length, Option, Some, None, option_map}
use Rattle.std.specs.List.{list_any, filter_map}
use Rattle.timing_defs.specs.declared.kinds.Split.{Split}
use Rattle.timing_defs.specs.declared.kinds.Split.TheVariants.{Early, Late}
use Rattle.timing_defs.specs.declared.kinds.Tran.{Tran}
use Rattle.timing_defs.specs.declared.kinds.Kind.{Kind}
use Rattle.timing_defs.specs.declared.kinds.Kind.TheVariants.{Setup, Hold}
use Rattle.timing_defs.specs.declared.edge_times.EdgeTime.{EdgeTime}
use Rattle.timing_defs.specs.declared.rows.BackRow.{BackRow}
use Rattle.timing_defs.specs.declared.design.Design.{Design}
use Rattle.timing_defs.specs.Netlist.{Node, same_node, nodes}
use Rattle.timing_defs.specs.Kinds.{other_split, kind_of}
use Rattle.timing_defs.specs.RowTimes.{time_on, back_times}
use Rattle.timing_rules.specs.Rows.{arcs_in, outermost, edge_time, launch_edges, delay, arrival}
use Rattle.timing_rules.specs.Tests.{Test, tests_at, is_endpoint, separation_on, uncertainty_on}

abbrev pub arcs_out : Design → Node → List Node
arcs_out d from = filter (λ to. list_any (same_node from) (arcs_in d to)) (nodes d)

-- the time that gives a test slack 0, without credit and exceptions
abbrev pub limit_by : Kind → Test → ℤ → ℤ → ℤ
limit_by Setup test sep unc = test.early +ℤ sep -ℤ test.need -ℤ unc
limit_by Hold test sep unc = test.late +ℤ sep +ℤ test.need +ℤ unc

abbrev pub limit_of : Design → Kind → ℕ × Tran → Test → ℤ
limit_of d kind edge test =
    limit_by kind test (separation_on d kind edge test.capture) (uncertainty_on d kind test.capture.0)

abbrev pub less_some : Option ℤ → Option ℤ → Option ℤ
less_some None y = None
less_some (Some x) None = None
less_some (Some x) (Some y) = Some (x -ℤ y)

-- at a node of an endpoint over its tests alone, elsewhere over the arcs out of required less delay
abbrev pub required_of : Design → Split → (Node → BackRow) → Node → ℕ × Tran → Option ℤ
required_of d split back_of node edge =
    (if is_endpoint d node.pin
    then outermost (other_split split) (λ test. Some (limit_of d (kind_of split) edge test)) None (tests_at d (kind_of split) node)
    else outermost (other_split split)
    (λ to. less_some (time_on (back_times split (back_of to)) edge) (delay d split node to)) None (arcs_out d node))

-- only for launch edges that arrive at the node
abbrev pub required_times : Design → Split → (Node → BackRow) → Node → List EdgeTime
required_times d split back_of node =
    filter_map (λ edge. option_map (edge_time edge) (required_of d split back_of node edge))
    (filter (λ edge. is_some (arrival d split node edge)) (launch_edges d))

abbrev pub back_step : Design → (Node → BackRow) → Node → BackRow
back_step d back_of node =
    record { early = required_times d Early back_of node; late = required_times d Late back_of node }

abbrev pub empty_back : BackRow
empty_back = record { early = []; late = [] }

abbrev pub back_within : Design → ℕ → Node → BackRow
back_within d zero node = empty_back
back_within d (suc n) node = back_step d (back_within d n) node

-- the back row of a node: all its required times
unfoldable pub back_row : Design → Node → BackRow
back_row d node = back_within d (suc (length (nodes d))) node

abbrev pub required : Design → Split → Node → ℕ × Tran → Option ℤ
required d split node edge = time_on (back_times split (back_row d node)) edge

abbrev pub slack_on : Design → Split → Node → ℕ × Tran → Option ℤ
slack_on d Late node edge = less_some (required d Late node edge) (arrival d Late node edge)
slack_on d Early node edge = less_some (arrival d Early node edge) (required d Early node edge)

-- the graph slack: the least over the launch edges that have both times
abbrev pub graph_slack : Design → Split → Node → Option ℤ
graph_slack d split node = outermost Early (slack_on d split node) None (launch_edges d)
