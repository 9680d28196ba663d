use Rattle.std.proofs.Common.{not, ap, sym, ◌∙◌}
use Rattle.std.specs.Arc.{arc_value}
use Rattle.live_words.specs.Asked.{asked_words}
use Rattle.live_server.specs.Serving.{documents_of}
use Rattle.live_server.proofs.EndLaws.{named, unwritten}
use Rattle.live_server.proofs.ending.held_end.Goals as goal

pub returns-then-is_none : goal.returns-then-is_none
returns-then-is_none g c = record {
  ends = λ holds f f' starts.
      unwritten holds f f' (documents_of (asked_words c.args.asked.now)) g.F.Sink.written g.F.Sink.faults (g.K.Sink.written c.args.out.now) (g.K.Sink.faults c.args.out.now)
      c.args.journal c.unheld.result.journal (arc_value c.args.version) c.unheld.result.sessions.items c.unheld.result.status _ starts
      (c.is_none.ensures ∙ ap not c.if-is_none.true) (named _ c.args.asked.now.journal ∙ sym c.is_some.ensures ∙ c.if-is_some.true)
      c.unheld.ensures.journal c.unheld.ensures.sessions c.unheld.ensures.status;
}
