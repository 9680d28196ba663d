use Rattle.std.proofs.Common.{◌≡◌, ℕ, ◌<◌, pos, sym, ap, ap₂, subst, ◌∙◌}
use Rattle.bounded_slack.specs.declared.reached.Held.{Held}
use Rattle.bounded_slack.specs.Nets.{count_of, level_of}
use Rattle.bounded_slack.specs.Cuts.{end_held, IsHeld}
use Rattle.bounded_slack.proofs.Cutting.{end_fine}
use Rattle.bounded_slack.proofs.firsts.at_end.Goals as goal

pub level-requires : goal.level-requires
level-requires g c = subst (λ n. n < count_of (g.F.Fan.net c.args.fan.now)) (sym c.end-end.ensures) c.requires.end

abbrev made : ℕ → ℕ → Held
made level node = record { level = level; node = node; sum = pos 0 }

pub returns-clause-end : goal.returns-clause-end
returns-clause-end g c =
    let net = g.F.Fan.net c.args.fan.now in
    ap₂ made (c.level.ensures ∙ ap (level_of net) c.end-end.ensures) c.end-end.ensures

pub returns-clause-held : goal.returns-clause-held
returns-clause-held g c =
    let net = g.F.Fan.net c.args.fan.now in
    let is : made c.level.result c.end-end.result ≡ end_held net = ap₂ made (c.level.ensures ∙ ap (level_of net) c.end-end.ensures) c.end-end.ensures in
    subst (IsHeld net) (sym is) (end_fine net c.requires)
