use Rattle.std.proofs.Common.{◌≡◌, drop}
use Rattle.sta_text.specs.Bytes.{comment_end}
use Rattle.sta_text.proofs.bytes.comment_len.Given as goal

abbrev pub invariant-loop-i : goal.invariant-loop-i
invariant-loop-i l = comment_end l.i l.second l.last (drop l.i l.bytes) ≡ comment_end 0 0 l.fn.first l.bytes
