use Rattle.std.proofs.Common.{◌≡◌, ◌≤◌, List, [], true, false, length}
use Rattle.timing_defs.specs.declared.liberty_tree.Lexeme.{Lexeme}
use Rattle.liberty_syntax.specs.Grammar.{Frame, listed, grow}
use Rattle.liberty_syntax.proofs.statements.arguments.Given as goal

abbrev pub invariant-each : goal.invariant-each
invariant-each l =
    ((fs : List Frame) (word : Lexeme) → grow l.size fs (listed word l.args l.more l.last) l.cursor ≡ grow l.size fs (listed word [] false true) l.initial.cursor)
    × (length l.cursor ≤ length l.initial.cursor)

abbrev pub decreases-each : goal.decreases-each
decreases-each l = length l.cursor
