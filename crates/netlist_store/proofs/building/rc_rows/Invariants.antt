use Rattle.std.proofs.Common.{◌≡◌, ◌++◌, length}
use Rattle.std.specs.Vec.Iter.{into_iter_items, into_iter_len}
use Rattle.netlist_store.specs.Building.{AreRcRows}
use Rattle.netlist_store.proofs.building.rc_rows.Given as goal

abbrev pub invariant-loop-rc : goal.invariant-loop-rc
invariant-loop-rc l = record {
  made : AreRcRows l.nets l.yielded l.rows;
  all : l.fn.rcs ≡ l.yielded ++ into_iter_items l.rc-iterator;
  left : into_iter_len l.rc-iterator ≡ length (into_iter_items l.rc-iterator);
}
