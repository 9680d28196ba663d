-- The skew of a launch edge, by the numbers of a store.

use Rattle.std.specs.Prelude.{ℕ, ◌≡◌, ◌++◌, ℤ, ◌-ℤ◌, true, false, List, Option, Some, None, Contains}
use Rattle.std.specs.Option.{option_to_list}
use Rattle.sta_units.specs.Numbers.{Within}
use Rattle.timing_defs.specs.declared.kinds.Split.{Split}
use Rattle.timing_defs.specs.declared.kinds.Split.TheVariants.{Early, Late}
use Rattle.timing_defs.specs.declared.kinds.Tran.{Tran}
use Rattle.timing_defs.specs.declared.kinds.Tran.TheVariants.{Rise, Fall}
use Rattle.timing_defs.specs.declared.rows.PathNode.{PathNode}
use Rattle.timing_defs.specs.declared.closing.SkewReport.{SkewReport}
use Rattle.timing_defs.specs.declared.design.Design.{Design}
use Rattle.timing_rules.specs.Summaries.{IsSkew, reaches_register}
use Rattle.netlist_store.specs.Numbering.{Stored, is_number}
use Rattle.pin_graph.specs.Nodes.{pin_under, tran_under}
use Rattle.path_search.specs.Ranks.{pin_name_at}
use Rattle.slack_summaries.specs.declared.outermost.Reached.{Reached}
use Rattle.slack_summaries.specs.declared.skewing.SkewEnds.{SkewEnds}
use Rattle.slack_summaries.specs.Outermost.{outermost_from}
use Rattle.slack_summaries.specs.Registers.{register_pins}

-- the first of the nodes that the edge reaches in a split
abbrev pub first_end : Stored → Split → ℕ × Tran → Option Reached
first_end s split edge = outermost_from s split edge None (register_pins s)

pub record IsEnd (s : Stored) (split : Split) (edge : ℕ × Tran) (end : Reached) : Type 0 where
  pub first : first_end s split edge ≡ Some end
  pub there : is_number s.pins (pin_under end.node) ≡ true
  pub within : Within end.time

abbrev pub AreEnds : Stored → ℕ × Tran → Option SkewEnds → Type 0
AreEnds s edge None = first_end s Late edge ≡ None
AreEnds s edge (Some ends) = IsEnd s Late edge ends.late × IsEnd s Early edge ends.early

-- a node by its number with its time
pub record IsNodeOf (s : Stored) (end : Reached) (node : PathNode) : Type 0 where
  pub pin : node.pin ≡ pin_name_at s end.node
  pub tran : node.tran ≡ tran_under end.node
  pub time : node.time.0 ≡ end.time

pub record IsSkewOf (s : Stored) (edge : ℕ × Tran) (ends : SkewEnds) (skew : SkewReport) : Type 0 where
  pub on : (skew.clock, skew.tran) ≡ edge
  pub late : IsNodeOf s ends.late skew.late
  pub early : IsNodeOf s ends.early skew.early
  pub less : skew.skew.0 ≡ ends.late.time -ℤ ends.early.time

abbrev pub IsEdgeSkew : Design → ℕ × Tran → Option SkewReport → Type 0
IsEdgeSkew d edge None = reaches_register d edge ≡ false
IsEdgeSkew d edge (Some skew) = (reaches_register d edge ≡ true) × IsSkew d edge skew

-- a list of skews with that of one edge more
pub record IsWithEdge (d : Design) (edge : ℕ × Tran) (before after : List SkewReport) : Type 0 where
  pub found : Option SkewReport
  pub is : IsEdgeSkew d edge found
  pub more : after ≡ before ++ option_to_list found

-- a list of skews with those of both edges of a clock more
pub record IsWithClock (d : Design) (at : ℕ) (before after : List SkewReport) : Type 0 where
  pub middle : List SkewReport
  pub rise : IsWithEdge d (at, Rise) before middle
  pub fall : IsWithEdge d (at, Fall) middle after
