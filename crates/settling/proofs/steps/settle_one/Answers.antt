use Rattle.std.proofs.Common.{◌<◌, arith}
use Rattle.settling.proofs.SettleLaws.{step_put}
use Rattle.settling.proofs.steps.settle_one.Goals as goal

pub returns-clause-step : goal.returns-clause-step
returns-clause-step g c _ =
    let fits : c.in_ok-value.value < 4294967295 = omega arith in
    step_put (g.R.Rule.count c.args.rule.now) (g.R.Rule.value c.args.rule.now) (g.R.Rule.behind c.args.rule.now) c.requires.rule
    c.args.values.now c.args.work.now.queue c.args.work.now.changed c.put.new.values c.put.new.work.queue c.put.new.work.changed
    c.args.number c.in_ok-value.value c.requires.count c.requires.low c.requires.number fits c.in_ok-value.ensures
    c.in_ok-put.ensures.values c.in_ok-put.ensures.changed c.in_ok-put.ensures.waiting
