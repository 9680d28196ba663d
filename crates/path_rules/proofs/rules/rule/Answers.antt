use Rattle.path_rules.proofs.Later.{rule_more}
use Rattle.path_rules.proofs.rules.rule.Goals as goal

pub loop-x-preserved : goal.loop-x-preserved
loop-x-preserved c =
    rule_more c.args.c.now c.args.launch.now c.args.capture.now c.as_slice-exceptions.result.now c.loop-x.x-index c.x-item.result c.loop-x-test.true c.x-item.is
    c.loop-x.found c.after-found.result c.loop-x.invariant c.after-found.ensures
