use Rattle.std.proofs.Common.{filter}
use Rattle.std.specs.List.{range_with_len}
use Rattle.level_workers.specs.Mapped.{IsMap}
use Rattle.affected_cone.specs.Analysed.{is_end}
use Rattle.clock_summaries.specs.Captures.{IsCapturedAt}
use Rattle.clock_summaries.proofs.captures.all_captured.Given as goal

abbrev pub invariant-loop-pin : goal.invariant-loop-pin
invariant-loop-pin l = IsMap (IsCapturedAt l.search.store.now l.kind) (filter (is_end l.search.store.now) (range_with_len 0 l.pin)) l.captured
