use Rattle.std.proofs.Common.{◌≤◌, length, take}
use Rattle.std.specs.Io.KnownBytes.{Appends}
use Rattle.sta_outside.proofs.std_sink.write_whole.Given as goal

-- the first `at` bytes were written
abbrev pub invariant-loop : goal.invariant-loop
invariant-loop g l =
    (l.at ≤ length l.bytes) × Appends (g.W.Write.contents l.initial.out) (g.W.Write.contents l.out) (take l.at l.bytes)
