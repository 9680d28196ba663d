use Rattle.std.proofs.Common.{ℤ, Option, refl, sym, subst, ◌∙◌}
use Rattle.affected_cone.specs.Bounds.{IsSlackAt}
use Rattle.affected_cone.proofs.BoundLaws.{found_slack, some_slack}
use Rattle.affected_cone.proofs.EndOrder.{ends_rise}
use Rattle.affected_cone.proofs.bounds.old_slack.Goals as goal

pub find_end-requires : goal.find_end-requires
find_end-requires c = ends_rise c.args.base.now.graph.now.stored c.args.base.now.ends.now c.args.base.now.ends.now refl c.requires.ends

pub returns : goal.returns
returns c =
    some_slack c.args.base.now.graph.now.stored c.args.kind c.args.pin c.slack_of.result
    (subst (λ (o : Option ℤ). IsSlackAt c.args.base.now.graph.now.stored c.args.kind c.args.pin o) (sym c.slack_of.ensures)
    (found_slack c.args.base.now.graph.now.stored c.args.base.now.ends.now c.requires.ends c.args.pin c.in_ok-end.end (sym c.find_end.ensures ∙ c.in_ok-end.was) c.args.kind))
