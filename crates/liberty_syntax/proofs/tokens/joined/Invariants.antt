use Rattle.std.proofs.Common.{◌≡◌, ◌++◌, drop}
use Rattle.liberty_syntax.specs.Grammar.{joined}
use Rattle.liberty_syntax.proofs.tokens.joined.Given as goal

abbrev pub invariant-loop-i : goal.invariant-loop-i
invariant-loop-i l = l.text ++ joined l.skip (drop l.i l.bytes) ≡ joined 0 l.bytes
