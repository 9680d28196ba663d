use Rattle.std.proofs.Common.{◌≡◌, true, rules}
use Rattle.settling.proofs.SettleLaws.{step_more}
use Rattle.settling.proofs.steps.settle_all.Goals as goal

pub loop-number-preserved : goal.loop-number-preserved
loop-number-preserved g c =
    let fits : c.in_ok-settle_one.field-0 ≡ true = search rules in
    step_more (g.R.Rule.count c.args.rule.now) (g.R.Rule.value c.args.rule.now) c.args.numbers.now c.loop-number.number-index 0 c.loop-number-test.true
    c.args.values.now c.args.work.now.queue c.args.work.now.changed c.loop-number.values c.loop-number.work.queue c.loop-number.work.changed
    c.settle_one.new.values c.settle_one.new.work.queue c.settle_one.new.work.changed c.loop-number.invariant (c.in_ok-settle_one.ensures.step fits)
