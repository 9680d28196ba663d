use Rattle.std.proofs.Common.{sym, ap, subst, ◌∙◌}
use Rattle.bounded_slack.specs.Nets.{bound_of, IsLow}
use Rattle.kernel_rows.specs.WrittenNets.{net_of, falls}
use Rattle.kernel_rows.proofs.WrittenLaws.{falling_by}
use Rattle.kernel_rows.proofs.written_nets.is_arc.Goals as goal

pub falls-requires-clause-here : goal.falls-requires-clause-here
falls-requires-clause-here c = subst IsLow (sym c.value_at-here.ensures) c.requires.here

pub returns-clause-falling : goal.returns-clause-falling
returns-clause-falling c =
    let net = net_of c.args.fan.now in
    λ is. falling_by net c.args.node c.args.arc
    (sym (c.falls.ensures ∙ ap (λ o. falls o c.value_at-here.result c.args.arc.delay) c.value_at-before.ensures ∙ ap (λ o. falls (bound_of net c.args.arc.from) o c.args.arc.delay) c.value_at-here.ensures)
    ∙ is)
