use Rattle.netlist_store.specs.Numbering.{name_at}
use Rattle.design_link.proofs.NetPinLaws.{crowded_is}
use Rattle.design_link.proofs.net_tests.has_many_drivers.Goals as goal

pub returns : goal.returns
returns c = crowded_is c.args.store.now.design (name_at c.args.store.now.nets c.args.net) c.driver_count.result c.driver_count.ensures
