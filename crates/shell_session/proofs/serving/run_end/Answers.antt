use Rattle.std.proofs.Common.{subst}
use Rattle.command_words.specs.Asked.{run_words}
use Rattle.shell_core.specs.Documents.{Stops, sources}
use Rattle.shell_session.proofs.EndLemmas.{run_refused}
use Rattle.shell_session.proofs.serving.run_end.Goals as goal

pub returns-in_ok-text-in-Err-Refused-clause-ends : goal.returns-in_ok-text-in-Err-Refused-clause-ends
returns-in_ok-text-in-Err-Refused-clause-ends g c =
    let holds = g.S.Shelf.holds c.args.shelf.now in
    let old = g.S.Shelf.faults c.args.shelf.now in
    let new = g.S.Shelf.faults c.read_all.new.shelf in
    let run = run_words c.args.run.now in
    let refused = c.in-Err-Refused in
    run_refused holds old new run c.in_ok-text-in-Err-Refused.text.items refused.role refused.code refused.place
    (subst (λ stop. Stops holds run old new (sources run) stop) refused.field-0-is refused.ensures.stop)
    c.in_ok-text-in-Err-Refused.ensures
