use Rattle.std.proofs.Common.{◌≡◌, drop}
use Rattle.sta_text.specs.Bytes.{closing}
use Rattle.sta_text.proofs.bytes.closing.Given as goal

abbrev pub invariant-loop-i : goal.invariant-loop-i
invariant-loop-i l = closing l.last l.i (drop l.i l.bytes) ≡ closing l.last 0 l.bytes
