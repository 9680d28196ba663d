use Rattle.settling.proofs.SettleLaws.{added_more}
use Rattle.settling.proofs.steps.wait_all.Goals as goal

pub loop-number-preserved : goal.loop-number-preserved
loop-number-preserved g c = added_more (g.R.Rule.count c.args.rule.now) c.args.numbers.now c.loop-number.number-index 0 c.loop-number-test.true
    (c.requires.within c.loop-number.number-index 0 c.loop-number-test.true) c.args.queue.now c.loop-number.queue c.add.new.self c.key.result
    c.loop-number.invariant c.in_ok-add.ensures.ok
