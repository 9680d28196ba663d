use Rattle.std.proofs.Common.{◌≡◌, ◌≤◌, drop}
use Rattle.sta_text.specs.Bytes.{word_end}
use Rattle.sta_text.proofs.bytes.word_len.Given as goal

abbrev pub invariant-loop-i : goal.invariant-loop-i
invariant-loop-i l =
    (word_end l.kind l.i l.depth l.before (drop l.i l.bytes) ≡ word_end l.kind 0 0 l.fn.first l.bytes) × (l.depth ≤ l.i)
