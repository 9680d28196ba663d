use Rattle.verilog_netlist.proofs.CoverLemmas.{more_reach_at}
use Rattle.verilog_netlist.proofs.covers.reaches.Goals as goal

pub loop-stretch-preserved : goal.loop-stretch-preserved
loop-stretch-preserved c =
    more_reach_at c.args.stretches.now c.loop-stretch.stretch-index c.loop-stretch.end c.max-end.result _ c.loop-stretch.ends c.push.new.self
    c.loop-stretch-test.true c.max-end.ensures c.in_ok-push.ensures.ok c.loop-stretch.invariant
