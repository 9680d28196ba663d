use Rattle.std.proofs.Common.{◌≡◌, ◌++◌, length, map, Some}
use Rattle.std.specs.Vec.Iter.{into_iter_items, into_iter_len}
use Rattle.netlist_store.proofs.numberings.numbered.Given as goal

abbrev pub invariant-loop-name : goal.invariant-loop-name
invariant-loop-name l = record {
  made : l.made ≡ map Some l.yielded;
  all : l.fn.names ≡ l.yielded ++ into_iter_items l.name-iterator;
  left : into_iter_len l.name-iterator ≡ length (into_iter_items l.name-iterator);
}
