use Rattle.command_words.specs.Asked.{run_words}
use Rattle.shell_core.proofs.DesignLaws.{stops_at_scripts}
use Rattle.shell_core.proofs.documents.with_scripts.Goals as goal

pub returns-in-Err-clause-stop : goal.returns-in-Err-clause-stop
returns-in-Err-clause-stop g c =
    let old = g.S.Shelf.faults c.args.shelf.now in
    let new = g.S.Shelf.faults c.scripts.new.shelf in
    stops_at_scripts (g.S.Shelf.holds c.args.shelf.now) (run_words c.args.run.now) old new c.args.design c.args.saved c.in-Err.stop
    c.requires.design c.requires.saved c.in-Err.ensures.stop
