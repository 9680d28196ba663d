use Rattle.std.proofs.Common.{false, ap}
use Rattle.std.specs.Prelude.{nat_eq}
use Rattle.std.specs.List.{list_any}
use Rattle.timing_defs.specs.Netlist.{net_of}
use Rattle.pin_graph.proofs.SeedPins.{gathered_none, gathered_more, gathered_all}
use Rattle.pin_graph.proofs.seeding.nets_pins.Goals as goal

pub loop-name-init : goal.loop-name-init
loop-name-init c = gathered_none c.args.store.now net_of (λ pin. false) c.new-pins.result c.args.names.now (λ pin. ap (list_any (nat_eq pin)) c.new-pins.ensures)

pub loop-name-preserved : goal.loop-name-preserved
loop-name-preserved c =
    gathered_more c.args.store.now net_of (λ pin. false) c.loop-name.pins c.add_net_pins.new.pins c.args.names.now c.loop-name.name-index c.name-item.result
    c.loop-name.invariant c.loop-name-test.true c.name-item.is c.in_ok-add_net_pins.ensures

pub returns : goal.returns
returns c = gathered_all c.args.store.now net_of (λ pin. false) c.loop-name.pins c.args.names.now c.loop-name.name-index c.loop-name.invariant c.loop-name-test.false
