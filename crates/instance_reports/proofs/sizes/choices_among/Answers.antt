use Rattle.timing_defs.specs.declared.library.Cell.{Cell}
use Rattle.timing_rules.specs.Connections.{may_be}
use Rattle.instance_reports.proofs.CellLaws.{listed_apart}
use Rattle.instance_reports.proofs.ResizeLaws.{sound_sized}
use Rattle.instance_reports.proofs.SizeLaws.{choices_more}
use Rattle.instance_reports.proofs.sizes.choices_among.Goals as goal

pub add_choice-requires-clause-sized : goal.add_choice-requires-clause-sized
add_choice-requires-clause-sized c = sound_sized c.args.store.now.design c.requires.sound

pub add_choice-requires-clause-pins : goal.add_choice-requires-clause-pins
add_choice-requires-clause-pins c =
    listed_apart c.args.store.now.design c.laws.ensures.linked c.args.cells.now c.loop-cell.cell-index c.cell-item.result c.requires.cells c.loop-cell-test.true c.cell-item.is

pub loop-cell-preserved : goal.loop-cell-preserved
loop-cell-preserved c =
    choices_more c.args.now.now (λ (cell : Cell). may_be c.args.store.now.design c.args.inst.now cell.name) c.args.cells.now c.loop-cell.cell-index c.cell-item.result
    c.loop-cell.rows c.add_choice.new.rows c.loop-cell-test.true c.cell-item.is c.loop-cell.invariant c.in_ok-add_choice.ensures
