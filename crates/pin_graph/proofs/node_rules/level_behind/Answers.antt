use Rattle.std.proofs.Common.{◌≡◌, ◌+◌, ◌∙◌, false, sym, take, rules}
use Rattle.std.specs.Prelude.{max}
use Rattle.pin_graph.specs.declared.arcs.GraphKind.TheVariants.{Net}
use Rattle.pin_graph.specs.NodeValues.{level_behind}
use Rattle.pin_graph.proofs.NodeRules.{behind_more}
use Rattle.pin_graph.proofs.node_rules.level_behind.Goals as goal

pub loop-arc-preserved : goal.loop-arc-preserved
loop-arc-preserved c =
    let more = behind_more c.args.levels.now c.args.arcs.now c.loop-arc.arc-index (record { from = 0; to = 0; kind = Net; edge = false }) c.loop-arc-test.true in
    let was : c.loop-arc.level ≡ level_behind c.args.levels.now (take c.loop-arc.arc-index c.args.arcs.now) = c.loop-arc.invariant in
    let top : c.max-level.result ≡ max c.loop-arc.level (c.value_at.result + 1) = search rules in
    top ∙ (λ k. max (was k) (c.value_at.ensures k + 1)) ∙ sym more
