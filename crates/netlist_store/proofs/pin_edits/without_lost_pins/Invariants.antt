use Rattle.std.proofs.Common.{◌≡◌, ◌≤◌, ℕ, List, drop, length}
use Rattle.netlist_store.specs.Numbering.{number_of}
use Rattle.netlist_store.proofs.PinsOfInst.{lost_over}
use Rattle.netlist_store.proofs.pin_edits.without_lost_pins.Given as goal

abbrev pub invariant-loop-pin : goal.invariant-loop-pin
invariant-loop-pin l = record {
  gone : (q : List ℕ) → lost_over l.inst l.stay (drop l.pin-index l.pins) q (number_of l.after q)
      ≡ lost_over l.inst l.stay l.pins q (number_of l.initial.after q);
  longer : length l.initial.after ≤ length l.after;
}
