use Rattle.instance_reports.proofs.SizeLaws.{choices_told}
use Rattle.instance_reports.proofs.sizes.choices_of.Goals as goal

pub returns : goal.returns
returns c =
    choices_told c.args.store.now.design c.laws.ensures.linked c.args.inst.now c.args.now.now c.requires.now c.args.cells.now c.requires.cells c.in_ok-rows.rows
    c.in_ok-rows.ensures c.in_order.result c.in_order.ensures
