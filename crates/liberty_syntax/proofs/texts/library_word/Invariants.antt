use Rattle.std.proofs.Common.{◌≡◌, [], length}
use Rattle.liberty_syntax.specs.Grammar.{body, grow}
use Rattle.liberty_syntax.proofs.texts.library_word.Given as goal

abbrev pub invariant-each : goal.invariant-each
invariant-each l = grow l.size [] body l.cursor ≡ grow l.size [] body l.initial.cursor

abbrev pub decreases-each : goal.decreases-each
decreases-each l = length l.cursor
