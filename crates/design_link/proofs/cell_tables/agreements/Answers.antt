use Rattle.design_link.specs.Documents.{agrees_in}
use Rattle.design_link.proofs.LinkLaws.{mapped_more}
use Rattle.design_link.proofs.cell_tables.agreements.Goals as goal

pub loop-cell-preserved : goal.loop-cell-preserved
loop-cell-preserved c =
    mapped_more (agrees_in c.args.early.now) c.loop-cell.all c.push.new.self c.args.late.now c.loop-cell.cell-index c.cell-item.result c.agrees_in.result c.loop-cell-test.true c.cell-item.is
    c.loop-cell.invariant c.agrees_in.ensures c.in_ok-push.ensures.ok
