use Rattle.std.proofs.Common.{◌≡◌, ◌++◌, length}
use Rattle.std.specs.Vec.Iter.{into_iter_items, into_iter_len}
use Rattle.verilog_netlist.specs.Modules.{insts_of, begun_insts}
use Rattle.verilog_netlist.proofs.modules.insts_of.Given as goal

abbrev pub invariant-loop-event : goal.invariant-loop-event
invariant-loop-event l = record {
  rest : l.insts ++ begun_insts l.begun (into_iter_items l.event-iterator) ≡ insts_of l.fn.events.items;
  left : into_iter_len l.event-iterator ≡ length (into_iter_items l.event-iterator);
}
