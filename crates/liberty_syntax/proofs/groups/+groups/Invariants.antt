use Rattle.std.proofs.Common.{◌≡◌, ◌≤◌, ◌+◌, ◌-◌, ◌*◌, List, ◌∷◌, length}
use Rattle.timing_defs.specs.declared.liberty_tree.Lexeme.{Lexeme}
use Rattle.liberty_syntax.specs.Grammar.{Frame, frame, body, grow}
use Rattle.liberty_syntax.specs.Parts.{left}
use Rattle.liberty_syntax.proofs.groups.+groups.Given as goal

abbrev pub invariant-group_items-each : goal.invariant-group_items-each
invariant-group_items-each l =
    ((word : Lexeme) (args : List Lexeme) (fs : List Frame) → length fs + 1 ≡ l.depth → grow l.size (frame word args l.out ∷ fs) body (left l.pending l.cursor) ≡ grow l.size (frame word args l.initial.out ∷ fs) body l.initial.cursor)
    × (length (left l.pending l.cursor) ≤ length l.initial.cursor)

abbrev pub decreases-group_items-each : goal.decreases-group_items-each
decreases-group_items-each l = length (left l.pending l.cursor)

abbrev pub decreases-group_items : goal.decreases-group_items
decreases-group_items l = 3 * (64 - l.depth) + 2

abbrev pub decreases-group_item : goal.decreases-group_item
decreases-group_item l = 3 * (64 - l.depth) + 1

abbrev pub decreases-group : goal.decreases-group
decreases-group l = 3 * (64 - l.depth)
