use Rattle.std.proofs.Common.{◌∙◌, Some, ap, sym}
use Rattle.pin_graph.proofs.DriverLaws.{before_is}
use Rattle.pin_graph.proofs.pulls.driver_of.Goals as goal

pub returns : goal.returns
returns c =
    c.driver_at.ensures
    ∙ sym (before_is c.args.store.now c.args.pin c.in_ok-net.net (c.drives.ensures ∙ ap Some c.if-drives.false) (sym c.in_ok-net.ensures.value))
