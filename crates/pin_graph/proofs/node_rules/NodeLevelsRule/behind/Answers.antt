use Rattle.std.proofs.Common.{◌∙◌, ℕ, map, ap, sym, subst, arith}
use Rattle.std.specs.Prelude.{nat_eq}
use Rattle.std.specs.List.{list_any}
use Rattle.std.proofs.lemmas.Result.{IfOk-weaker}
use Rattle.pin_graph.specs.Graphs.{to_of, IsFans}
use Rattle.pin_graph.proofs.NodeRules.{heads_under}
use Rattle.pin_graph.proofs.node_rules.NodeLevelsRule.behind.Goals as goal

pub at-requires-clause-fans : goal.at-requires-clause-fans
at-requires-clause-fans c = subst (λ (n : ℕ). IsFans n c.args.self.now.outs.now) (sym c.requires.ready.out_fan.count) c.requires.ready.out_fan

pub at-requires-clause-node : goal.at-requires-clause-node
at-requires-clause-node c = let long = c.requires.ready.out_fan.count in let low = c.requires.at in omega (arith, long, low)

pub returns-clause-within : goal.returns-clause-within
returns-clause-within c =
    IfOk-weaker c.heads.result _ _ (λ nodes made.
    heads_under _ c.args.self.now.ins.now c.args.self.now.outs.now c.args.self.now.pin_levels.now c.requires.ready c.args.at nodes c.at.result.now c.requires.at made c.at.ensures)
    c.heads.ensures

pub returns-clause-all : goal.returns-clause-all
returns-clause-all c =
    IfOk-weaker c.heads.result _ _ (λ nodes made a low h. ap (list_any (nat_eq a)) (made ∙ ap (map to_of) c.at.ensures) ∙ h) c.heads.ensures
