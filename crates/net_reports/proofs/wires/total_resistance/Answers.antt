use Rattle.std.proofs.Common.{◌∙◌}
use Rattle.timing_defs.specs.Wires.{res_of}
use Rattle.rc_tree.proofs.Weighing.{total_more}
use Rattle.net_reports.proofs.WireLaws.{ress_measured}
use Rattle.net_reports.proofs.wires.total_resistance.Goals as goal

pub loop-res-preserved : goal.loop-res-preserved
loop-res-preserved c =
    total_more res_of c.args.ress.now c.loop-res.res-index c.res-item.result c.loop-res.total c.from-total.result (ress_measured c.args.ress.now c.requires)
    c.loop-res-test.true c.res-item.is (c.from-total.ensures ∙ c.amount.ensures) c.loop-res.invariant
