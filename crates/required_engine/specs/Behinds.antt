-- The required times of a node by the numbers of a store: over its tests, or over the arcs out of it, each
-- with its delay and the required times of the node to which it leads.

use Rattle.std.specs.Prelude.{ℕ, ◌<◌, ℤ, ◌+ℤ◌, ◌-ℤ◌, ⊤, List, All, length, slice_get, Option, None, Some, option_and_then}
use Rattle.timing_defs.specs.declared.kinds.Split.{Split}
use Rattle.timing_defs.specs.declared.kinds.Tran.{Tran}
use Rattle.timing_defs.specs.declared.kinds.Kind.{Kind}
use Rattle.timing_defs.specs.declared.kinds.Kind.TheVariants.{Setup, Hold}
use Rattle.timing_defs.specs.declared.edge_times.EdgeTime.{EdgeTime}
use Rattle.timing_defs.specs.declared.design.Design.{Design}
use Rattle.timing_rules.specs.Rows.{outermost}
use Rattle.timing_defs.specs.RowTimes.{time_on}
use Rattle.timing_rules.specs.Tests.{separation_on, uncertainty_on}
use Rattle.timing_defs.specs.Kinds.{kind_of, other_split}
use Rattle.timing_defs.specs.RowTimes.{back_times}
use Rattle.timing_rules.specs.Required.{less_some}
use Rattle.node_tests.specs.declared.node_test.NodeTest.{NodeTest}
use Rattle.pin_graph.specs.declared.arcs.GraphArc.{GraphArc}
use Rattle.arc_delays.specs.Delays.{delay_told}
use Rattle.required_engine.specs.declared.arcs_out.ArcsOut.{ArcsOut}
use Rattle.required_engine.specs.declared.times.Behind.{Behind}
use Rattle.required_engine.specs.declared.times.Behind.TheVariants.{Tests, Arcs}

-- the time on a launch edge that gives a test slack 0
abbrev pub told_limit : Design → Kind → ℕ × Tran → NodeTest → ℤ
told_limit d Setup edge t =
    t.early.0 +ℤ separation_on d Setup edge (t.capture_clock, t.capture_tran) -ℤ t.need.0 -ℤ uncertainty_on d Setup t.capture_clock
told_limit d Hold edge t =
    t.late.0 +ℤ separation_on d Hold edge (t.capture_clock, t.capture_tran) +ℤ t.need.0 +ℤ uncertainty_on d Hold t.capture_clock

abbrev pub over_tests : Design → Split → List NodeTest → ℕ × Tran → Option ℤ
over_tests d split tests edge = outermost (other_split split) (λ t. Some (told_limit d (kind_of split) edge t)) None tests

-- the tables have the node to which an arc leads: its row, and the delays of the arcs into it
pub record IsTabled (o : ArcsOut) (arc : GraphArc) : Type 0 where
  pub row : arc.to < length o.rows.now
  pub delays : arc.to < length o.delays.now

-- the required time at the node to which an arc leads, less the delay of the arc
abbrev pub over_arc : ArcsOut → Split → ℕ × Tran → GraphArc → Option ℤ
over_arc o split edge arc =
    option_and_then (λ row. less_some (time_on (back_times split row) edge) (delay_told o.delays.now split arc.from arc.to))
    (slice_get o.rows.now arc.to)

abbrev pub over_arcs : ArcsOut → Split → ℕ × Tran → Option ℤ
over_arcs o split edge = outermost (other_split split) (over_arc o split edge) None o.arcs.now

-- the tables have the nodes to which the arcs behind a node lead
abbrev pub AreTabled : Behind → Type 0
AreTabled (Tests tests) = ⊤
AreTabled (Arcs out) = All (IsTabled out) out.arcs.now

-- the required time on a launch edge over what lies behind a node
abbrev pub over_behind : Design → Split → Behind → ℕ × Tran → Option ℤ
over_behind d split (Tests tests) edge = over_tests d split tests.now edge
over_behind d split (Arcs out) edge = over_arcs out split edge

-- the launch edge of a time
abbrev pub edge_of : EdgeTime → ℕ × Tran
edge_of t = (t.clock, t.tran)
