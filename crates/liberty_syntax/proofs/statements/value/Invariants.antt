use Rattle.std.proofs.Common.{◌≡◌, ◌≤◌, List, [], ◌∷◌, length}
use Rattle.timing_defs.specs.declared.liberty_tree.Lexeme.{Lexeme}
use Rattle.liberty_syntax.specs.Grammar.{Frame, valued, grow}
use Rattle.liberty_syntax.proofs.statements.value.Given as goal

abbrev pub invariant-each : goal.invariant-each
invariant-each l =
    ((f : Frame) (fs : List Frame) (word : Lexeme) → grow l.size (f ∷ fs) (valued word l.value) l.cursor ≡ grow l.size (f ∷ fs) (valued word []) l.initial.cursor)
    × (length l.cursor ≤ length l.initial.cursor)

abbrev pub decreases-each : goal.decreases-each
decreases-each l = length l.cursor
