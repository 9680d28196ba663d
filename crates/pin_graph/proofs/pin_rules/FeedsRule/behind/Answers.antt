use Rattle.std.proofs.lemmas.Result.{IfOk-weaker}
use Rattle.pin_graph.proofs.PinRules.{tails_within}
use Rattle.pin_graph.proofs.pin_rules.FeedsRule.behind.Goals as goal

pub returns-clause-within : goal.returns-clause-within
returns-clause-within c =
    IfOk-weaker c.network_tails.result _ _ (λ found same. tails_within c.args.self.now.store.now c.laws.ensures.numbered c.laws.ensures.linked c.args.at found same) c.network_tails.ensures
