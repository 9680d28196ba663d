use Rattle.std.proofs.Common.{filter, take}
use Rattle.timing_rules.specs.Connections.{may_be}
use Rattle.instance_reports.specs.Resizes.{AreChoicesOf}
use Rattle.instance_reports.proofs.sizes.choices_among.Given as goal

abbrev pub invariant-loop-cell : goal.invariant-loop-cell
invariant-loop-cell l = AreChoicesOf l.now (filter (λ cell. may_be l.store.design l.inst cell.name) (take l.cell-index l.cells)) l.rows
