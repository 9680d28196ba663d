use Rattle.std.proofs.Common.{◌≡◌, ◌<◌, None, false, drop}
use Rattle.std.specs.Prelude.{IfSome}
use Rattle.spef_reader.specs.Words.{last_at}
use Rattle.spef_reader.proofs.words.last_at.Given as goal

abbrev pub invariant-loop-i : goal.invariant-loop-i
invariant-loop-i l =
    (last_at l.delimiter l.i l.found l.escaped (drop l.i l.word) ≡ last_at l.delimiter 0 None false l.word)
    × IfSome l.found (λ n. n < l.i)
