use Rattle.std.specs.Arc.{arc_value}
use Rattle.command_words.specs.Asked.{run_words}
use Rattle.live_server.specs.Beginnings.{StartsRun, IsUnheld}
use Rattle.live_server.proofs.BeginLaws.{given_ok, given_err}
use Rattle.live_server.proofs.beginning.read_begun.Goals as goal

pub returns-in-Ok-clause-begun : goal.returns-in-Ok-clause-begun
returns-in-Ok-clause-begun g c =
    given_ok c.begun_of.result (λ v. StartsRun (g.S.Shelf.holds c.args.shelf.now) (run_words c.args.run.now) (arc_value v))
    (IsUnheld (g.S.Shelf.holds c.args.shelf.now) (run_words c.args.run.now) (g.S.Shelf.faults c.args.shelf.now) (g.S.Shelf.faults c.read_design.new.shelf))
    (c.begun_of.ensures (g.S.Shelf.holds c.args.shelf.now) (g.S.Shelf.faults c.args.shelf.now) (g.S.Shelf.faults c.read_design.new.shelf) c.in-Ok.ensures.value.0 c.in-Ok.ensures.value.1)

pub returns-in-Ok-clause-refused : goal.returns-in-Ok-clause-refused
returns-in-Ok-clause-refused g c =
    given_err c.begun_of.result (λ v. StartsRun (g.S.Shelf.holds c.args.shelf.now) (run_words c.args.run.now) (arc_value v))
    (IsUnheld (g.S.Shelf.holds c.args.shelf.now) (run_words c.args.run.now) (g.S.Shelf.faults c.args.shelf.now) (g.S.Shelf.faults c.read_design.new.shelf))
    (c.begun_of.ensures (g.S.Shelf.holds c.args.shelf.now) (g.S.Shelf.faults c.args.shelf.now) (g.S.Shelf.faults c.read_design.new.shelf) c.in-Ok.ensures.value.0 c.in-Ok.ensures.value.1)
