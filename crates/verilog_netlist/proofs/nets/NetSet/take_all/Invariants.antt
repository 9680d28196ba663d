use Rattle.std.proofs.Common.{◌≡◌, length}
use Rattle.std.specs.Vec.Iter.{into_iter_items, into_iter_len}
use Rattle.verilog_netlist.specs.Faults.{with_names}
use Rattle.verilog_netlist.proofs.nets.NetSet.take_all.Given as goal

abbrev pub invariant-loop-name : goal.invariant-loop-name
invariant-loop-name l = record {
  rest : with_names l.self (into_iter_items l.name-iterator) ≡ with_names l.fn.self l.fn.names;
  left : into_iter_len l.name-iterator ≡ length (into_iter_items l.name-iterator);
}
