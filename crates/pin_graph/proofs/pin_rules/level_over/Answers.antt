use Rattle.std.proofs.Common.{◌≡◌, ◌+◌, ◌∙◌, sym, take, rules}
use Rattle.std.specs.Prelude.{max}
use Rattle.pin_graph.specs.PinValues.{level_over}
use Rattle.pin_graph.proofs.RuleLists.{level_more}
use Rattle.pin_graph.proofs.pin_rules.level_over.Goals as goal

pub loop-pin-preserved : goal.loop-pin-preserved
loop-pin-preserved c =
    let more = level_more c.args.levels.now c.args.befores.now c.loop-pin.pin-index 0 c.loop-pin-test.true in
    let was : c.loop-pin.level ≡ level_over c.args.levels.now (take c.loop-pin.pin-index c.args.befores.now) = c.loop-pin.invariant in
    let top : c.max-level.result ≡ max c.loop-pin.level (c.value_at.result + 1) = search rules in
    top ∙ (λ k. max (was k) (c.value_at.ensures k + 1)) ∙ sym more
