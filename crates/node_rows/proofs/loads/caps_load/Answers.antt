use Rattle.std.proofs.Common.{◌∙◌}
use Rattle.timing_defs.specs.declared.parasitics.RcCap.{RcCap}
use Rattle.rc_tree.proofs.Weighing.{total_more}
use Rattle.node_rows.proofs.TreeNets.{caps_measured}
use Rattle.node_rows.proofs.loads.caps_load.Goals as goal

pub loop-cap-preserved : goal.loop-cap-preserved
loop-cap-preserved c =
    total_more (λ (x : RcCap). x.cap.0) c.args.caps.now c.loop-cap.cap-index c.cap-item.result c.loop-cap.total c.from-total.result (caps_measured c.args.caps.now c.requires)
    c.loop-cap-test.true c.cap-item.is (c.from-total.ensures ∙ c.amount.ensures) c.loop-cap.invariant
