-- What the steps to the skew of a launch edge give.

use Rattle.std.proofs.Common.{◌≡◌, ℕ, ◌<◌, ℤ, ◌-ℤ◌, true, List, [], ◌∷◌, ◌++◌, append-nil, length, Option, None, Some, refl, sym, ap, subst, ◌∙◌}
use Rattle.std.specs.Prelude.{Contains}
use Rattle.std.specs.Option.{option_to_list, unwrap_or}
use Rattle.sta_units.specs.declared.units.Fs.{Fs}
use Rattle.timing_defs.specs.declared.kinds.Split.{Split}
use Rattle.timing_defs.specs.declared.kinds.Split.TheVariants.{Early, Late}
use Rattle.timing_defs.specs.declared.kinds.Tran.{Tran}
use Rattle.timing_defs.specs.declared.edge_times.LaunchEdge.{LaunchEdge}
use Rattle.timing_defs.specs.declared.rows.PathNode.{PathNode}
use Rattle.timing_defs.specs.declared.closing.SkewReport.{SkewReport}
use Rattle.timing_defs.specs.declared.design.Design.{Design}
use Rattle.timing_defs.specs.RowTimes.{edge_of}
use Rattle.timing_rules.specs.Range.{NoOrigin}
use Rattle.timing_rules.specs.Rows.{launch_edges}
use Rattle.netlist_store.specs.Linked.{IsLinked}
use Rattle.netlist_store.specs.Numbering.{Stored, name_at, IsNumbered}
use Rattle.pin_graph.specs.Nodes.{pin_under, tran_under}
use Rattle.pin_graph.specs.Graphs.{Graphed, IsGraph}
use Rattle.slack_summaries.specs.declared.outermost.Reached.{Reached}
use Rattle.slack_summaries.specs.declared.skewing.SkewEnds.{SkewEnds}
use Rattle.slack_summaries.specs.Registers.{register_pins}
use Rattle.slack_summaries.specs.Outermost.{outermost_from}
use Rattle.slack_summaries.specs.Skews.{first_end, AreEnds, IsNodeOf, IsSkewOf, IsEdgeSkew, IsWithEdge}
use Rattle.slack_summaries.proofs.SkewLaws.{end_told, both_there}

-- a node that is copied out
pub node_made : (s : Stored) (end : Reached) (name copy : List ℕ) (tran : Tran) → name_at s.pins (pin_under end.node) ≡ Some name → copy ≡ name → tran ≡ tran_under end.node
    → IsNodeOf s end (record { pin = copy; tran = tran; time = record { 0 = end.time } })
node_made s end name copy tran at same is = record { pin = same ∙ sym (ap (λ o. unwrap_or o []) at); tran = is; time = refl }

pub no_ends : (s : Stored) (edge : ℕ × Tran) (pins : List ℕ) (o : Option Reached) → pins ≡ register_pins s → o ≡ outermost_from s Late edge None pins → o ≡ None → AreEnds s edge None
no_ends s edge pins o same is none = ap (outermost_from s Late edge None) (sym same) ∙ sym is ∙ none

pub end_first : (s : Stored) (split : Split) (edge : ℕ × Tran) (pins : List ℕ) (o : Option Reached) (end : Reached) → pins ≡ register_pins s
    → o ≡ outermost_from s split edge None pins → o ≡ Some end → first_end s split edge ≡ Some end
end_first s split edge pins o end whole is some = ap (outermost_from s split edge None) (sym whole) ∙ sym is ∙ some

pub both_ends : (g : Graphed) (s : Stored) → g.stored ≡ s → IsNumbered s → IsLinked s.design → IsGraph g → NoOrigin s.design → (edge : ℕ × Tran) → Contains (launch_edges s.design) edge
    → (late early : Reached) → first_end s Late edge ≡ Some late → first_end s Early edge ≡ Some early → AreEnds s edge (Some (record { late = late; early = early }))
both_ends g s same num linked is fine edge m late early l e =
    (end_told s num linked Late edge late l g same is fine m, end_told s num linked Early edge early e g same is fine m)

-- an early arrival is not wanting
pub no_gap : (g : Graphed) (s : Stored) → g.stored ≡ s → IsNumbered s → IsLinked s.design → IsGraph g → (edge : ℕ × Tran) → Contains (launch_edges s.design) edge → (pins : List ℕ)
    (late : Reached) (o : Option Reached) → pins ≡ register_pins s → first_end s Late edge ≡ Some late → o ≡ outermost_from s Early edge None pins → o ≡ None → ⊥
no_gap g s same num linked is edge m pins late o whole first of_early none =
    both_there s num linked edge g same is m late first (ap (outermost_from s Early edge None) (sym whole) ∙ sym of_early ∙ none)

pub skew_made : (s : Stored) (edge : LaunchEdge) (ends : SkewEnds) (late early : PathNode) (skew : Fs) → IsNodeOf s ends.late late → IsNodeOf s ends.early early
    → skew.0 ≡ ends.late.time -ℤ ends.early.time
    → IsSkewOf s (edge_of edge) ends (record { clock = edge.clock; tran = edge.tran; skew = skew; late = late; early = early })
skew_made s edge ends late early skew l e is = record { on = refl; late = l; early = e; less = is }

pub put_some : (d : Design) (edge : ℕ × Tran) (before after : List SkewReport) (skew : SkewReport) → IsEdgeSkew d edge (Some skew) → after ≡ before ++ skew ∷ [] → IsWithEdge d edge before after
put_some d edge before after skew is more = record { found = Some skew; is = is; more = more }

pub put_none : (d : Design) (edge : ℕ × Tran) (before after : List SkewReport) → IsEdgeSkew d edge None → after ≡ before → IsWithEdge d edge before after
put_none d edge before after is same = record { found = None; is = is; more = same ∙ sym (append-nil before) }
