use Rattle.std.proofs.Common.{◌<◌, ◌∙◌, ℕ, sym, subst}
use Rattle.std.specs.Prelude.{All}
use Rattle.pin_graph.proofs.PinRules.{befores_within}
use Rattle.pin_graph.proofs.pin_rules.PinLevelsRule.value.Goals as goal

pub level_over-requires-clause-within : goal.level_over-requires-clause-within
level_over-requires-clause-within c =
    subst (λ (n : ℕ). All (λ pin. pin < n) c.as_slice.result.now) (sym c.requires.count)
    (befores_within c.args.self.now.store.now c.laws.ensures.numbered c.laws.ensures.linked c.args.at c.as_slice.result.now (c.as_slice.ensures ∙ c.in_ok-befores.ensures))
