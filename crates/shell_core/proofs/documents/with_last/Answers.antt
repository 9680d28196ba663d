use Rattle.command_words.specs.Asked.{run_words}
use Rattle.shell_core.proofs.DesignLaws.{stops_in_journal}
use Rattle.shell_core.proofs.documents.with_last.Goals as goal

pub returns-in-Err-clause-stop : goal.returns-in-Err-clause-stop
returns-in-Err-clause-stop g c =
    let read = c.args.read in
    let are = c.requires.read in
    stops_in_journal (g.S.Shelf.holds c.args.shelf.now) (run_words c.args.run.now) (g.S.Shelf.faults c.args.shelf.now) read.design read.journal c.in-Err.stop
    are.0 are.1 c.in-Err.ensures.stop
