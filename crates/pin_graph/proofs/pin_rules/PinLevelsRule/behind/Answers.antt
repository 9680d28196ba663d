use Rattle.std.proofs.lemmas.Result.{IfOk-weaker}
use Rattle.pin_graph.proofs.PinRules.{behind_within}
use Rattle.pin_graph.proofs.pin_rules.PinLevelsRule.behind.Goals as goal

pub returns-clause-within : goal.returns-clause-within
returns-clause-within c =
    IfOk-weaker c.pins_behind.result _ _ (λ found same. behind_within c.args.self.now.store.now c.laws.ensures.numbered c.laws.ensures.linked c.args.at found same) c.pins_behind.ensures
