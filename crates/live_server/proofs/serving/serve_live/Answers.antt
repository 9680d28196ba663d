use Rattle.std.proofs.Common.{is_some, subst}
use Rattle.std.specs.Arc.{arc_value}
use Rattle.command_words.specs.Asked.{RunWords, run_words}
use Rattle.begun_version.specs.declared.beginning.Unbegun.{Unbegun}
use Rattle.live_words.specs.Asked.{asked_words}
use Rattle.live_server.specs.Serving.{documents_of, out_at, IsRefused}
use Rattle.live_server.specs.Beginnings.{StartsRun, IsUnheld}
use Rattle.live_server.proofs.EndLaws.{refused_ends}
use Rattle.live_server.proofs.serving.serve_live.Goals as goal

pub returns-in-Ok-clause-ends : goal.returns-in-Ok-clause-ends
returns-in-Ok-clause-ends g c =
    c.held_end.ensures.ends (g.S.Shelf.holds c.args.shelf.now) (g.S.Shelf.faults c.args.shelf.now) (g.S.Shelf.faults c.read_begun.new.shelf)
    (subst (λ (run : RunWords). StartsRun (g.S.Shelf.holds c.args.shelf.now) run (arc_value c.in-Ok.version)) c.run_of-run.ensures.words c.in-Ok.ensures.begun)

pub returns-in-Err-Refused-clause-ends : goal.returns-in-Err-Refused-clause-ends
returns-in-Err-Refused-clause-ends g c =
    let holds = g.S.Shelf.holds c.args.shelf.now in
    let f = g.S.Shelf.faults c.args.shelf.now in
    let f' = g.S.Shelf.faults c.read_begun.new.shelf in
    let refused = c.in-Err-Refused in
    refused_ends holds f f' (documents_of (asked_words c.args.asked.now)) g.F.Sink.written g.F.Sink.faults
    (out_at (g.K.Sink.written c.args.out.now) (g.K.Sink.faults c.args.out.now))
    (out_at (g.K.Sink.written c.tell-status.new.out) (g.K.Sink.faults c.tell-status.new.out)) c.args.journal c.unheld.result.journal (is_some c.args.journal)
    refused.end.status refused.end.text.items c.deref.result.now c.unheld.result.sessions.items c.tell-status.result c.unheld.result.status _
    (subst (λ (run : RunWords). IsRefused holds f f' run refused.end.status refused.end.text.items) c.run_of-run.ensures.words
    (subst (λ (u : Unbegun). IsUnheld holds (run_words c.run_of-run.result) f f' u) refused.field-0-is refused.ensures.refused))
    c.deref.ensures.value c.tell-status.ensures c.unheld.ensures.journal c.unheld.ensures.sessions c.unheld.ensures.status
