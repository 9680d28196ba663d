use Rattle.std.proofs.Common.{sym}
use Rattle.store_pins.proofs.OwnNames.{drives_is}
use Rattle.store_pins.proofs.pins.is_driving.Goals as goal

pub returns : goal.returns
returns c = sym (drives_is c.args.store.now c.args.pin c.drives.result c.drives.ensures)
