use Rattle.std.proofs.Common.{◌∙◌}
use Rattle.netlist_store.specs.Numbering.{pin_numbered}
use Rattle.store_pins.proofs.OwnNames.{drives_told}
use Rattle.store_pins.proofs.pins.drives.Goals as goal

pub returns : goal.returns
returns c =
    drives_told (pin_numbered c.args.store.now c.args.pin) c.is_some.result c.dir_of.result c.drives_as.result (c.is_some.ensures ∙ c.inst_of.ensures.none) c.dir_of.ensures c.drives_as.ensures
