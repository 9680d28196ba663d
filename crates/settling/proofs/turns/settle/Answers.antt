use Rattle.std.proofs.Common.{List, ℕ, subst}
use Rattle.settling.specs.Steps.{IsDone}
use Rattle.settling.proofs.SettleLaws.{state_first, resettled}
use Rattle.settling.proofs.turns.settle.Goals as goal

pub take_turns-requires-clause-state : goal.take_turns-requires-clause-state
take_turns-requires-clause-state g c =
    state_first (g.R.Rule.count c.args.rule.now) (g.R.Rule.value c.args.rule.now) c.args.values.now c.args.wrong.now c.new.result c.wait_all.new.queue
    c.requires.settled c.new.ensures c.in_ok-wait_all.ensures

pub returns-then-branch-clause-settled : goal.returns-then-branch-clause-settled
returns-then-branch-clause-settled g c =
    resettled (g.R.Rule.count c.args.rule.now) (g.R.Rule.value c.args.rule.now) c.args.values.now c.take_turns.new.values c.take_turns.new.work.changed
    (subst (λ (none : List ℕ). IsDone (g.R.Rule.count c.args.rule.now) (g.R.Rule.value c.args.rule.now) c.args.values.now none c.take_turns.new.values c.take_turns.new.work.changed)
    c.new-2.ensures (c.in_ok-take_turns.ensures.done c.if-branch.true))
