use Rattle.std.proofs.Common.{rules, ◌≡◌, IfOk, subst}
use Rattle.std.specs.Arc.{arc_value}
use Rattle.session_engine.specs.Versions.{Versioned}
use Rattle.live_run.specs.Runs.{manner_of, file_of}
use Rattle.live_run.proofs.BeginLaws.{runs_alike, file_alike}
use Rattle.live_run.proofs.runs.run_live.Goals as goal

pub returns-in-Ok-clause-run : goal.returns-in-Ok-clause-run
returns-in-Ok-clause-run g c =
    let ready = c.in-Ok.ready in
    let made = c.in-Ok.ensures in
    let manner : ready.manner ≡ manner_of (arc_value c.args.version) c.args.journal = search rules in
    runs_alike g.F.Sink.written g.F.Sink.faults c.run_ready.result _ (g.N.Hall.lines c.args.plan.now.hall.now) (g.N.Hall.denies c.args.plan.now.hall.now) ready.manner (manner_of (arc_value c.args.version) c.args.journal) ready.board.opening (arc_value c.args.version)
    (file_of g.F.Sink.written g.F.Sink.faults c.args.journal) ready.derates (arc_value c.args.version).stored.design.constraints.derates
    manner made.board.0 made.derates c.run_ready.ensures.run

pub returns-in-Ok-clause-untouched : goal.returns-in-Ok-clause-untouched
returns-in-Ok-clause-untouched g c = file_alike g.F.Sink.written g.F.Sink.faults c.run_ready.result c.args.journal c.run_ready.ensures.untouched
