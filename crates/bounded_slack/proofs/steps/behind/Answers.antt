use Rattle.std.proofs.Common.{◌≡◌, sym, ap, subst, ◌∙◌}
use Rattle.bounded_slack.specs.Cuts.{arc_held, behind, IsHeld}
use Rattle.bounded_slack.proofs.Cutting.{low_sum, behind_held}
use Rattle.bounded_slack.proofs.steps.behind.Goals as goal

pub level-requires : goal.level-requires
level-requires g c = c.requires.arc.0

pub arc_held-requires-clause-sum : goal.arc_held-requires-clause-sum
arc_held-requires-clause-sum g c = low_sum (g.F.Fan.net c.args.fan.now) c.args.held c.requires.net c.requires.held

pub arc_held-requires-clause-delay : goal.arc_held-requires-clause-delay
arc_held-requires-clause-delay g c = c.requires.arc.3

pub returns-clause-value : goal.returns-clause-value
returns-clause-value g c = c.arc_held.ensures ∙ ap (λ l. arc_held l c.args.held c.args.arc) c.level.ensures

pub returns-clause-held : goal.returns-clause-held
returns-clause-held g c =
    let net = g.F.Fan.net c.args.fan.now in
    let is : c.arc_held.result ≡ behind net c.args.held c.args.arc = c.arc_held.ensures ∙ ap (λ l. arc_held l c.args.held c.args.arc) c.level.ensures in
    subst (IsHeld net) (sym is) (behind_held net c.args.held c.args.arc c.requires.held c.requires.arc c.requires.there)
