use Rattle.std.proofs.Common.{refl}
use Rattle.std.specs.Prelude.{nat_eq, option_map}
use Rattle.std.specs.List.{list_any}
use Rattle.timing_defs.specs.declared.netlist.Inst.{Inst}
use Rattle.timing_defs.specs.Netlist.{Pin}
use Rattle.pin_graph.proofs.SeedPins.{gathered_none, gathered_more, gathered_all}
use Rattle.pin_graph.proofs.seeding.add_insts_pins.Goals as goal

pub loop-name-init : goal.loop-name-init
loop-name-init c =
    gathered_none c.args.store.now (λ (p : Pin). option_map (λ (i : Inst). i.name) p.owner) (λ pin. list_any (nat_eq pin) c.args.pins.now) c.args.pins.now c.args.names.now (λ pin. refl)

pub loop-name-preserved : goal.loop-name-preserved
loop-name-preserved c =
    gathered_more c.args.store.now (λ (p : Pin). option_map (λ (i : Inst). i.name) p.owner) (λ pin. list_any (nat_eq pin) c.args.pins.now) c.loop-name.pins c.add_inst_pins.new.pins
    c.args.names.now c.loop-name.name-index c.name-item.result
    c.loop-name.invariant c.loop-name-test.true c.name-item.is c.in_ok-add_inst_pins.ensures

pub returns : goal.returns
returns c =
    gathered_all c.args.store.now (λ (p : Pin). option_map (λ (i : Inst). i.name) p.owner) (λ pin. list_any (nat_eq pin) c.args.pins.now) c.loop-name.pins c.args.names.now c.loop-name.name-index
    c.loop-name.invariant c.loop-name-test.false
