use Rattle.netlist_store.specs.Drafts.{row_named, inst_row}
use Rattle.netlist_store.proofs.PinsOfInst.{rows_more, rows_end}
use Rattle.netlist_store.proofs.pin_edits.put_inst_pins.Goals as goal

pub returns-clause-rows : goal.returns-clause-rows
returns-clause-rows c =
    rows_end c.args.inst.now.name (inst_row c.args.nets.now c.args.inst.now c.args.owner) c.args.pins.now c.loop-pin.pin-index c.loop-pin-test.false c.requires.distinct
    (row_named c.loop-pin.after c.loop-pin.rows) (row_named c.args.names c.args.rows.now) c.loop-pin.invariant.rows

pub loop-pin-preserved : goal.loop-pin-preserved
loop-pin-preserved c = record {
  rows =
      rows_more c.args.inst.now.name (inst_row c.args.nets.now c.args.inst.now c.args.owner) c.args.pins.now c.loop-pin.pin-index c.pin-item.result
      c.loop-pin-test.true c.pin-item.is (row_named c.loop-pin.after c.loop-pin.rows) (row_named c.in_ok-after.after c.put_inst_pin.new.rows)
      (row_named c.args.names c.args.rows.now) c.loop-pin.invariant.rows c.in_ok-after.ensures.rows;
  kept = λ q n e. c.in_ok-after.ensures.kept q n (c.loop-pin.invariant.kept q n e);
  follows = c.in_ok-after.ensures.follows;
  filled = c.in_ok-after.ensures.filled;
}
