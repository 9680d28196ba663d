use Rattle.netlist_store.proofs.NamedLaws.{number_is}
use Rattle.netlist_store.proofs.PinsOfInst.{name_gone, name_longer}
use Rattle.netlist_store.proofs.pin_edits.without_name.Goals as goal

pub without-requires : goal.without-requires
without-requires c = number_is c.args.names c.args.name.now c.args.number c.requires

pub returns-clause-gone : goal.returns-clause-gone
returns-clause-gone c =
    name_gone c.args.names c.in_ok-after.after c.laws.ensures c.laws-2.ensures c.args.name.now c.args.number c.requires c.in_ok-after.ensures

pub returns-clause-longer : goal.returns-clause-longer
returns-clause-longer c =
    name_longer c.args.names c.in_ok-after.after c.laws.ensures c.laws-2.ensures c.args.name.now c.args.number c.requires c.in_ok-after.ensures
