use Rattle.std.proofs.Common.{◌≡◌, drop, None, true}
use Rattle.timing_rules.specs.Rows.{outermost}
use Rattle.timing_rules.specs.Range.{within_some}
use Rattle.node_rows.specs.declared.arcs.ArcValues.{ArcValues}
use Rattle.node_rows.proofs.merges.merged_slew.Given as goal

abbrev pub invariant-loop-value : goal.invariant-loop-value
invariant-loop-value l =
    (outermost l.split (λ (v : ArcValues). v.slew) l.best (drop l.value-index l.values) ≡ outermost l.split (λ (v : ArcValues). v.slew) None l.values)
    × (within_some l.best ≡ true)
