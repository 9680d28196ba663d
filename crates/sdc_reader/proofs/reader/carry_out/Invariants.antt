use Rattle.std.proofs.Common.{◌≡◌, ◌≤◌, length, None, drop}
use Rattle.sta_text.specs.Faults.{least_from}
use Rattle.sdc_reader.specs.Meaning.{clock_limit, start, last}
use Rattle.sdc_reader.specs.Faults.{faults}
use Rattle.sdc_reader.proofs.reader.carry_out.Given as goal

abbrev pub invariant-loop-event : goal.invariant-loop-event
invariant-loop-event l =
    (last l.set (drop l.event-index l.events) ≡ last (start l.fn.units) l.events)
    × (least_from l.fault (faults l.size l.whole l.set (drop l.event-index l.events)) ≡ least_from None (faults l.size l.whole (start l.fn.units) l.events))
    × (length l.set.clocks ≤ clock_limit)
