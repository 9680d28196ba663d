use Rattle.std.proofs.Common.{◌≡◌, ◌≤◌, List, ◌∷◌, false, length}
use Rattle.timing_defs.specs.declared.liberty_tree.Lexeme.{Lexeme}
use Rattle.liberty_syntax.specs.Grammar.{Frame, closed, grow}
use Rattle.liberty_syntax.proofs.statements.after_list.Given as goal

abbrev pub invariant-each : goal.invariant-each
invariant-each l =
    ((f : Frame) (fs : List Frame) (word : Lexeme) (args : List Lexeme) → grow l.size (f ∷ fs) (closed word args l.ended) l.cursor ≡ grow l.size (f ∷ fs) (closed word args false) l.initial.cursor)
    × (length l.cursor ≤ length l.initial.cursor)

abbrev pub decreases-each : goal.decreases-each
decreases-each l = length l.cursor
