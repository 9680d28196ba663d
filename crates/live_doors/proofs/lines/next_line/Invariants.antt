-- the line so far was read, without a line feed, and is kept as far as it fits
use Rattle.std.proofs.Common.{◌≤◌, [], vec_len}
use Rattle.live_doors.specs.Lines.{kept_length, ReadsPart}
use Rattle.live_doors.proofs.lines.next_line.Given as goal

abbrev pub invariant-loop : goal.invariant-loop
invariant-loop g l =
    (vec_len l.line ≤ kept_length) × ReadsPart (g.B.Read.remaining l.initial.input) (g.B.Read.remaining l.input) [] l.line.items []
