use Rattle.command_words.specs.Asked.{run_words}
use Rattle.shell_core.proofs.DesignLaws.{stops_at_journal}
use Rattle.shell_core.proofs.documents.with_journal.Goals as goal

pub returns-in-Err-clause-stop : goal.returns-in-Err-clause-stop
returns-in-Err-clause-stop g c =
    let old = g.S.Shelf.faults c.args.shelf.now in
    let new = g.S.Shelf.faults c.journal.new.shelf in
    let why = c.in-Err.ensures in
    stops_at_journal (g.S.Shelf.holds c.args.shelf.now) (run_words c.args.run.now) old new c.args.design c.in-Err.stop c.requires.design why.stop why.unread
