use Rattle.std.proofs.Common.{◌≡◌, true, [], drop}
use Rattle.std.specs.List.{list_all}
use Rattle.timing_defs.specs.Edits.{has_colon, sink_faults, first_fault}
use Rattle.netlist_store.proofs.sinks.check_sinks_on.Given as goal

abbrev pub invariant-loop-sink : goal.invariant-loop-sink
invariant-loop-sink l = record {
  faults : first_fault (sink_faults l.store.design l.net l.seen.keys (drop l.sink-index l.sinks)) ≡ first_fault (sink_faults l.store.design l.net [] l.sinks);
  colons : list_all has_colon (drop l.sink-index l.sinks) ≡ true;
}
