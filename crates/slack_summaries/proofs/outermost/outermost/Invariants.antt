use Rattle.std.proofs.Common.{◌≡◌, drop, None}
use Rattle.timing_defs.specs.RowTimes.{edge_of}
use Rattle.slack_summaries.specs.Outermost.{outermost_from}
use Rattle.slack_summaries.proofs.outermost.outermost.Given as goal

abbrev pub invariant-loop-pin : goal.invariant-loop-pin
invariant-loop-pin l =
    outermost_from l.search.store.now l.split (edge_of l.edge) l.best (drop l.pin-index l.pins) ≡ outermost_from l.search.store.now l.split (edge_of l.edge) None l.pins
