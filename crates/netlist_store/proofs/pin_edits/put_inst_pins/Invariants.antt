use Rattle.std.proofs.Common.{◌≡◌, ℕ, List, drop}
use Rattle.netlist_store.specs.Drafts.{Follows, IsFilled, KeepsNames, row_named, inst_row}
use Rattle.netlist_store.proofs.PinsOfInst.{rows_over}
use Rattle.netlist_store.proofs.pin_edits.put_inst_pins.Given as goal

abbrev pub invariant-loop-pin : goal.invariant-loop-pin
invariant-loop-pin l = record {
  rows : (q : List ℕ) → rows_over l.inst.name (inst_row l.nets l.inst l.owner) (drop l.pin-index l.pins) q (row_named l.after l.rows q)
      ≡ rows_over l.inst.name (inst_row l.nets l.inst l.owner) l.pins q (row_named l.initial.after l.initial.rows q);
  kept : KeepsNames l.initial.after l.after;
  follows : Follows l.base l.after;
  filled : IsFilled l.after l.rows;
}
