use Rattle.std.proofs.Common.{length}
use Rattle.netlist_store.proofs.stores.Store.+sinks_on.Given as goal

abbrev pub decreases-with_sinks_on : goal.decreases-with_sinks_on
decreases-with_sinks_on l = length l.sinks.now
