use Rattle.std.proofs.Common.{◌∙◌, Some, ap, sym}
use Rattle.pin_graph.proofs.DriverLaws.{driver_read, before_is}
use Rattle.pin_graph.proofs.drivers.before.Goals as goal

pub bounds-drivers-net : goal.bounds-drivers-net
bounds-drivers-net c = (driver_read c.args.store.now c.args.drivers.now c.in_ok-net.net c.requires c.in_ok-net.ensures.net).0

pub returns : goal.returns
returns c =
    (driver_read c.args.store.now c.args.drivers.now c.in_ok-net.net c.requires c.in_ok-net.ensures.net).1
    ∙ sym (before_is c.args.store.now c.args.pin c.in_ok-net.net (c.drives.ensures ∙ ap Some c.if-drives.false) (sym c.in_ok-net.ensures.value))
