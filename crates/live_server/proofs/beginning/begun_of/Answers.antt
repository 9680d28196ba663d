use Rattle.std.specs.Arc.{arc_value}
use Rattle.command_words.specs.Asked.{run_words}
use Rattle.live_server.proofs.BeginLaws.{begun_with, unsaved}
use Rattle.live_server.proofs.beginning.begun_of.Goals as goal

pub returns-in-Ok : goal.returns-in-Ok
returns-in-Ok g c = λ holds f f' read quiet.
    begun_with holds (run_words c.args.run.now) f f' (λ v. arc_value v) c.begun_version-begun.result c.args.read.design c.args.read.journal c.in-Ok.saved read quiet
    c.in-Ok.ensures.value c.begun_version-begun.ensures.number c.begun_version-begun.ensures.journal c.begun_version-begun.ensures.stored
    c.begun_version-begun.ensures.begins c.begun_version-begun.ensures.refused

pub returns-in-Err : goal.returns-in-Err
returns-in-Err g c = λ holds f f' read quiet.
    unsaved holds (run_words c.args.run.now) f f' c.args.read.design c.args.read.journal c.in-Err.stop c.stopped.result read quiet c.in-Err.ensures.stop c.stopped.ensures
