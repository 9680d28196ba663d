-- the lines before the place are copied
use Rattle.std.proofs.Common.{◌≡◌, take}
use Rattle.live_doors.specs.InMemory.{kept_lines}
use Rattle.live_doors.proofs.mem_door.copied.Given as goal

abbrev pub invariant-loop-line : goal.invariant-loop-line
invariant-loop-line l = kept_lines l.copies.items ≡ kept_lines (take l.line-index l.lines)
