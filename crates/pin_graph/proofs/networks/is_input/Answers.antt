use Rattle.netlist_store.specs.Numbering.{pin_numbered}
use Rattle.pin_graph.proofs.StartLaws.{owned_input, free_input}
use Rattle.pin_graph.proofs.networks.is_input.Goals as goal

pub returns-in-None : goal.returns-in-None
returns-in-None c =
    free_input (pin_numbered c.args.store.now c.args.pin) c.inst_of.result c.drives.result c.inst_of.ensures.none c.in-None.is c.drives.ensures

pub returns-in-Some : goal.returns-in-Some
returns-in-Some c =
    owned_input (pin_numbered c.args.store.now c.args.pin) c.inst_of.result c.in-Some.field-0 c.inst_of.ensures.none c.in-Some.is
