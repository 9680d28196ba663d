use Rattle.std.proofs.Common.{Some, sym, ap, ◌∙◌}
use Rattle.timed_paths.proofs.NumberLaws.{drives_net}
use Rattle.timed_paths.proofs.driven.driven_by.Goals as goal

pub returns-in_ok-driven_net-in-Some : goal.returns-in_ok-driven_net-in-Some
returns-in_ok-driven_net-in-Some c =
    drives_net c.args.store.now c.args.split c.args.pin (c.drives.ensures ∙ ap Some c.if-not-drives.false) c.in-Some.net (sym c.in-Some.is ∙ c.net_of.ensures.value)
    c.in_ok-driven_net-in-Some.field-0 c.in_ok-driven_net-in-Some.ensures
