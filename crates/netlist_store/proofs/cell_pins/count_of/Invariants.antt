use Rattle.std.proofs.Common.{◌≡◌, ◌+◌, ◌≤◌, drop, filter, length}
use Rattle.timing_defs.specs.Netlist.{same_dir}
use Rattle.netlist_store.proofs.cell_pins.count_of.Given as goal

abbrev pub invariant-loop-pin : goal.invariant-loop-pin
invariant-loop-pin l = record {
  counted : l.count + length (filter (λ p. same_dir p.dir l.dir) (drop l.pin-index l.pins)) ≡ length (filter (λ p. same_dir p.dir l.dir) l.pins);
  below : l.count ≤ l.pin-index;
}
