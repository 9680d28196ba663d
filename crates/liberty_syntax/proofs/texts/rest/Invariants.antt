use Rattle.std.proofs.Common.{◌≡◌, [], length}
use Rattle.timing_defs.specs.declared.liberty_tree.Tree.{Tree}
use Rattle.liberty_syntax.specs.Grammar.{behind, grow}
use Rattle.liberty_syntax.proofs.texts.rest.Given as goal

abbrev pub invariant-each : goal.invariant-each
invariant-each l = (tree : Tree) → grow l.size [] (behind tree) l.cursor ≡ grow l.size [] (behind tree) l.initial.cursor

abbrev pub decreases-each : goal.decreases-each
decreases-each l = length l.cursor
