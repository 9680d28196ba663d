use Rattle.std.proofs.Common.{map, take}
use Rattle.design_paths.specs.Seen.{AreOf}
use Rattle.design_paths.proofs.Stopping.{pin_of}
use Rattle.design_paths.proofs.worst.add_ends.Given as goal

abbrev pub invariant-loop-row : goal.invariant-loop-row
invariant-loop-row l =
    AreOf l.search.store.now.design l.asked.kind l.asked.count l.asked.each (map pin_of (take l.row-index l.rows)) l.kept.items
