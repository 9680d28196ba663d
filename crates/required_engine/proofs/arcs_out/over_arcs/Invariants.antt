use Rattle.std.proofs.Common.{◌≡◌, drop}
use Rattle.timing_rules.specs.Rows.{outermost}
use Rattle.timing_defs.specs.Kinds.{other_split}
use Rattle.required_engine.specs.Behinds.{over_arc, over_arcs}
use Rattle.required_engine.proofs.arcs_out.over_arcs.Given as goal

abbrev pub invariant-loop-arc : goal.invariant-loop-arc
invariant-loop-arc l =
    outermost (other_split l.split) (over_arc l.out l.split (l.clock, l.tran)) l.best (drop l.arc-index l.arc-items)
    ≡ over_arcs l.out l.split (l.clock, l.tran)
