use Rattle.std.proofs.Common.{ap, ◌∙◌, not}
use Rattle.netlist_store.proofs.NamedLaws.{number_is}
use Rattle.netlist_store.proofs.InUse.{in_use}
use Rattle.netlist_store.proofs.stores.Store.has_pins.Goals as goal

pub net_pins-requires : goal.net_pins-requires
net_pins-requires c = number_is c.args.self.now.nets c.args.name.now c.args.net c.requires

pub returns : goal.returns
returns c =
    ap not c.is_empty.ensures
    ∙ in_use c.args.self.now c.laws.ensures.numbered c.laws.ensures.linked c.args.name.now c.args.net c.requires c.net_pins.result.now c.net_pins.ensures
