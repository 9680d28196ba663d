use Rattle.netlist_store.specs.Numbering.{pin_numbered}
use Rattle.node_tests.proofs.EndpointLaws.{driver_end, port_end, inst_end}
use Rattle.node_tests.proofs.endpoints.is_endpoint.Goals as goal

pub returns-then-drives : goal.returns-then-drives
returns-then-drives c = driver_end c.args.store.now.design (pin_numbered c.args.store.now c.args.pin) c.if-drives.ensures

pub returns-in-Some : goal.returns-in-Some
returns-in-Some c =
    inst_end c.args.store.now c.laws.ensures.numbered c.laws.ensures.linked c.args.pin c.requires c.in-Some.inst c.cell_at.result.now c.as_slice.result.now c.has_own_test.result
    c.if-drives.ensures c.in-Some.ensures.value c.cell_at.ensures c.as_slice.ensures c.has_own_test.ensures

pub returns-in-None : goal.returns-in-None
returns-in-None c = port_end c.args.store.now.design (pin_numbered c.args.store.now c.args.pin) c.if-drives.ensures c.in-None.ensures.none
