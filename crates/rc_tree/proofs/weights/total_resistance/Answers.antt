use Rattle.std.proofs.Common.{◌∙◌}
use Rattle.timing_defs.specs.Wires.{res_of}
use Rattle.rc_tree.proofs.Weighing.{total_more}
use Rattle.rc_tree.proofs.weights.total_resistance.Goals as goal

pub loop-resistor-preserved : goal.loop-resistor-preserved
loop-resistor-preserved c =
    total_more res_of c.args.resistors.now c.loop-resistor.resistor-index c.resistor-item.result c.loop-resistor.total c.from-total.result c.requires c.loop-resistor-test.true c.resistor-item.is (c.from-total.ensures ∙ c.resistance.ensures) c.loop-resistor.invariant
