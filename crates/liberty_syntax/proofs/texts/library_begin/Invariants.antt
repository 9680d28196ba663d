use Rattle.std.proofs.Common.{◌≡◌, List, [], false, length}
use Rattle.timing_defs.specs.declared.liberty_tree.Lexeme.{Lexeme}
use Rattle.liberty_syntax.specs.Grammar.{closed, grow}
use Rattle.liberty_syntax.proofs.texts.library_begin.Given as goal

abbrev pub invariant-each : goal.invariant-each
invariant-each l =
    (word : Lexeme) (args : List Lexeme) → grow l.size [] (closed word args false) l.cursor ≡ grow l.size [] (closed word args false) l.initial.cursor

abbrev pub decreases-each : goal.decreases-each
decreases-each l = length l.cursor
