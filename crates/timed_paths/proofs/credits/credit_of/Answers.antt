use Rattle.std.proofs.Common.{ℕ, ◌<◌, List, None, sym, ap, ◌∙◌}
use Rattle.pin_graph.specs.Nodes.{node_bound}
use Rattle.timed_paths.specs.TestNumbers.{last_same}
use Rattle.timed_paths.proofs.CaptureLaws.{test_walked}
use Rattle.timed_paths.proofs.CreditLaws.{credit_none, credit_some, common_low}
use Rattle.timed_paths.proofs.credits.credit_of.Goals as goal

pub walk_to-requires-clause-clock : goal.walk_to-requires-clause-clock
walk_to-requires-clause-clock g c = test_walked c.args.sources.now.store.now c.args.test.now c.requires.test

pub spread_at-requires-clause-node : goal.spread_at-requires-clause-node
spread_at-requires-clause-node g c =
    common_low c.args.sources.now.store.now c.laws.ensures.numbered c.laws.ensures.linked c.args.path.now c.in_ok-walk.walk (λ n. n < node_bound c.args.sources.now.store.now)
    c.in_ok-walk.ensures.below c.in-Some.node
    (sym (ap (λ (xs : List ℕ). last_same None c.args.path.now xs) c.as_slice.ensures) ∙ sym c.last_common.ensures ∙ c.in-Some.is)

pub returns-in-Some-clause-value : goal.returns-in-Some-clause-value
returns-in-Some-clause-value g c = λ names e.
    credit_some c.args.sources.now.store.now c.laws.ensures.numbered c.laws.ensures.linked c.args.test.now c.in_ok-walk.walk c.in_ok-walk.ensures.walk (c.args.clock, c.args.tran)
    c.args.path.now c.last_common.result (c.last_common.ensures ∙ ap (λ (xs : List ℕ). last_same None c.args.path.now xs) c.as_slice.ensures)
    c.in-Some.node c.in-Some.is c.spread_at.result.0 c.spread_at.ensures.value names e

pub returns-clause-value : goal.returns-clause-value
returns-clause-value g c = λ names e.
    credit_none c.args.sources.now.store.now c.laws.ensures.numbered c.laws.ensures.linked c.args.test.now c.in_ok-walk.walk c.in_ok-walk.ensures.walk (c.args.clock, c.args.tran)
    c.args.path.now c.last_common.result (c.last_common.ensures ∙ ap (λ (xs : List ℕ). last_same None c.args.path.now xs) c.as_slice.ensures) c.in-None.is names e
