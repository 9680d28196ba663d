use Rattle.std.proofs.Common.{inr, refl, ap, ◌∙◌}
use Rattle.std.specs.Arc.{arc_value}
use Rattle.live_words.specs.Asked.{asked_words}
use Rattle.live_run.specs.Runs.{file_of}
use Rattle.live_server.specs.Serving.{documents_of, out_at}
use Rattle.live_server.proofs.EndLaws.{held_ends, still}
use Rattle.live_server.proofs.ending.held.Goals as goal

pub returns-in-Ok : goal.returns-in-Ok
returns-in-Ok g c = record {
  ends = λ holds f f' starts.
      held_ends holds f f' (documents_of (asked_words c.args.asked.now)) (out_at (g.K.Sink.written c.args.out.now) (g.K.Sink.faults c.args.out.now))
      (out_at (g.K.Sink.written c.left.new.out) (g.K.Sink.faults c.left.new.out)) c.args.journal (arc_value c.args.version) (arc_value c.in-Ok.closed.last)
      (c.in-Ok.ensures.many ∙ c.sessions_of.ensures.many) c.requires.named starts
      c.in-Ok.ensures.run c.in-Ok.ensures.first c.in-Ok.ensures.origin c.left.ensures.told c.left.ensures.sessions (ap (file_of g.F.Sink.written g.F.Sink.faults) c.left.ensures.journal);
}

pub returns-in-Err : goal.returns-in-Err
returns-in-Err g c = record {
  ends = λ holds f f' starts.
      inr (inr (inr (
        c.unheld.ensures.sessions,
        ap (file_of g.F.Sink.written g.F.Sink.faults) c.unheld.ensures.journal ∙ c.in-Err.ensures.untouched,
        c.unheld.ensures.status,
        (still (g.K.Sink.written c.args.out.now), refl),
      )));
}
