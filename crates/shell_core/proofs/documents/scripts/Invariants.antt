use Rattle.std.proofs.Common.{◌≡◌}
use Rattle.command_words.specs.Asked.{run_words}
use Rattle.shell_core.specs.Reading.{AreRead}
use Rattle.shell_core.proofs.documents.scripts.Given as goal

abbrev pub invariant-loop-count : goal.invariant-loop-count
invariant-loop-count g l =
    (g.S.Shelf.holds l.shelf ≡ g.S.Shelf.holds l.fn.shelf)
    × (g.S.Shelf.faults l.shelf ≡ g.S.Shelf.faults l.fn.shelf)
    × AreRead (g.S.Shelf.holds l.fn.shelf) (run_words l.run) l.count l.scripts
