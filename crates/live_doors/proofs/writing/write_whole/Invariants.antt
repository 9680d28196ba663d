use Rattle.std.proofs.Common.{◌≤◌, length, take}
use Rattle.std.specs.Io.KnownBytes.{Appends}
use Rattle.live_doors.proofs.writing.write_whole.Given as goal

-- the first `at` bytes were written
abbrev pub invariant-loop : goal.invariant-loop
invariant-loop g l =
    (l.at ≤ length l.piece) × Appends (g.W.Write.contents l.initial.output) (g.W.Write.contents l.output) (take l.at l.piece)
