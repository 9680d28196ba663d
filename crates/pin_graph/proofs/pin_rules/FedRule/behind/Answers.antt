use Rattle.std.proofs.lemmas.Result.{IfOk-weaker}
use Rattle.pin_graph.proofs.PinRules.{heads_within}
use Rattle.pin_graph.proofs.pin_rules.FedRule.behind.Goals as goal

pub returns-clause-within : goal.returns-clause-within
returns-clause-within c =
    IfOk-weaker c.network_heads.result _ _ (λ found same. heads_within c.args.self.now.store.now c.laws.ensures.numbered c.laws.ensures.linked c.args.at found same) c.network_heads.ensures
