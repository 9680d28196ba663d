use Rattle.store_pins.proofs.DriverLaws.{on_all}
use Rattle.store_pins.proofs.pins.pins_on.Goals as goal

pub returns-clause-all : goal.returns-clause-all
returns-clause-all c = on_all c.args.store.now c.args.net c.net_pins.result.now c.net_pins.ensures
