use Rattle.std.proofs.Common.{◌<◌, List, ℕ, sym, subst}
use Rattle.std.specs.Prelude.{All}
use Rattle.level_cone.specs.Waiting.{IsTurn}
use Rattle.settling.proofs.SettleLaws.{turned_idle, turn_low, turn_taken}
use Rattle.settling.proofs.turns.take_turn.Goals as goal

pub settle_all-requires-clause-within : goal.settle_all-requires-clause-within
settle_all-requires-clause-within g c =
    let turn = rw c.in-Some.is at c.in_ok-turn.ensures.some in
    subst (All (λ a. a < g.R.Rule.count c.args.rule.now)) (sym c.as_slice.ensures)
    (turn_low (g.R.Rule.count c.args.rule.now) (g.R.Rule.value c.args.rule.now) c.args.values.now c.args.work.now.queue c.take_level.new.self
    c.in-Some.turn.nodes c.in-Some.turn.level c.requires.state turn)

pub returns-then-branch-clause-turned : goal.returns-then-branch-clause-turned
returns-then-branch-clause-turned g c =
    let turn = rw c.in-Some.is at c.in_ok-turn.ensures.some in
    let told = subst (λ (nodes : List ℕ). IsTurn c.args.work.now.queue c.take_level.new.self c.in-Some.turn.level nodes) (sym c.as_slice.ensures) turn in
    turn_taken (g.R.Rule.count c.args.rule.now) (g.R.Rule.value c.args.rule.now) c.args.values.now c.args.work.now.queue c.args.work.now.changed
    c.take_level.new.self c.settle_all.new.values c.settle_all.new.work.queue c.settle_all.new.work.changed c.as_slice.result.now c.in-Some.turn.level
    c.requires.state told (c.in_ok-settle_all.ensures.step c.if-branch.true)

pub returns-in_default-clause-turned : goal.returns-in_default-clause-turned
returns-in_default-clause-turned g c =
    let idle = rw c.in_default.is at c.in_ok-turn.ensures.none in
    turned_idle (g.R.Rule.count c.args.rule.now) (g.R.Rule.value c.args.rule.now) c.args.values.now c.args.work.now.queue c.args.work.now.changed c.requires.state idle
