use Rattle.std.proofs.Common.{◌≡◌, ◌≤◌, List, length}
use Rattle.timing_defs.specs.declared.liberty_tree.Lexeme.{Lexeme}
use Rattle.liberty_syntax.specs.Grammar.{Frame, named, grow}
use Rattle.liberty_syntax.proofs.statements.after_name.Given as goal

abbrev pub invariant-each : goal.invariant-each
invariant-each l =
    ((fs : List Frame) (word : Lexeme) → grow l.size fs (named word) l.cursor ≡ grow l.size fs (named word) l.initial.cursor)
    × (length l.cursor ≤ length l.initial.cursor)

abbrev pub decreases-each : goal.decreases-each
decreases-each l = length l.cursor
