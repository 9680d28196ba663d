use Rattle.settling.proofs.SettleLaws.{gone_none, gone_more, done_more}
use Rattle.settling.proofs.turns.take_turns.Goals as goal

pub loop-turn-init : goal.loop-turn-init
loop-turn-init g c = gone_none (g.R.Rule.count c.args.rule.now) (g.R.Rule.value c.args.rule.now) c.args.values.now c.args.work.now.queue c.args.work.now.changed c.requires.state

pub loop-turn-preserved : goal.loop-turn-preserved
loop-turn-preserved g c =
    let turned = rw c.in-Unsettled.is at c.in_ok-take_turn.ensures.turned in
    gone_more (g.R.Rule.count c.args.rule.now) (g.R.Rule.value c.args.rule.now) c.args.values.now c.args.work.now.changed
    c.loop-turn.values c.loop-turn.work.queue c.loop-turn.work.changed c.take_turn.new.values c.take_turn.new.work.queue c.take_turn.new.work.changed
    c.loop-turn.invariant turned

pub returns-in-Settled-clause-done : goal.returns-in-Settled-clause-done
returns-in-Settled-clause-done g c _ =
    let turned = rw c.in-Settled.is at c.in_ok-take_turn.ensures.turned in
    done_more (g.R.Rule.count c.args.rule.now) (g.R.Rule.value c.args.rule.now) c.args.values.now c.args.work.now.changed
    c.loop-turn.values c.loop-turn.work.queue c.loop-turn.work.changed c.take_turn.new.values c.take_turn.new.work.changed c.loop-turn.invariant turned
