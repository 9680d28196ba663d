use Rattle.std.proofs.Common.{◌≡◌, ◌++◌, length, map, Some}
use Rattle.std.specs.Vec.Iter.{into_iter_items, into_iter_len}
use Rattle.netlist_store.proofs.building.inst_rows.Given as goal

abbrev pub invariant-loop-inst : goal.invariant-loop-inst
invariant-loop-inst l = record {
  made : l.rows ≡ map Some l.yielded;
  all : l.fn.insts ≡ l.yielded ++ into_iter_items l.inst-iterator;
  left : into_iter_len l.inst-iterator ≡ length (into_iter_items l.inst-iterator);
}
