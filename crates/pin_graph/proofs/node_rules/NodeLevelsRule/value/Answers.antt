use Rattle.std.proofs.Common.{◌<◌, ℕ, sym, subst}
use Rattle.std.specs.Prelude.{All}
use Rattle.pin_graph.specs.declared.arcs.GraphArc.{GraphArc}
use Rattle.pin_graph.proofs.NodeRules.{tails_under}
use Rattle.pin_graph.proofs.node_rules.NodeLevelsRule.value.Goals as goal

pub level_behind-requires-clause-within : goal.level_behind-requires-clause-within
level_behind-requires-clause-within c =
    subst (λ (n : ℕ). All (λ (arc : GraphArc). arc.from < n) c.at.result.now) (sym c.requires.count)
    (tails_under _ c.args.self.now.ins.now c.args.self.now.outs.now c.args.self.now.pin_levels.now c.requires.ready c.args.at c.at.result.now c.requires.at c.at.ensures)
