use Rattle.std.proofs.Common.{refl}
use Rattle.pin_graph.proofs.StartLaws.{number_is}
use Rattle.pin_graph.proofs.SeedPins.{inst_put, inst_away, ok_then}
use Rattle.pin_graph.proofs.seeding.add_inst_pins.Goals as goal

pub cell_at-cell-requires : goal.cell_at-cell-requires
cell_at-cell-requires c = number_is c.args.store.now.insts c.args.name.now c.in-Some.inst c.in-Some.ensures

pub returns-in-Some : goal.returns-in-Some
returns-in-Some c =
    ok_then c.add_own_pins.result
    (inst_put c.args.store.now c.laws.ensures.numbered c.laws.ensures.linked c.args.name.now c.in-Some.inst c.inst_at.result.now c.cell_at-cell.result.now c.args.pins.now c.add_own_pins.new.pins
    c.in-Some.ensures c.inst_at.ensures.value c.cell_at-cell.ensures)
    c.add_own_pins.ensures

pub returns-in-None : goal.returns-in-None
returns-in-None c =
    inst_away c.args.store.now c.laws.ensures.numbered c.laws.ensures.linked c.args.name.now c.args.pins.now c.args.pins.now c.in-None.ensures refl
