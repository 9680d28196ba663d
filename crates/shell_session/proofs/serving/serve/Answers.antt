use Rattle.std.proofs.Common.{map}
use Rattle.std.specs.String.{string_bytes}
use Rattle.command_words.specs.Command.{words_of}
use Rattle.shell_session.proofs.Completeness.{completes}
use Rattle.shell_session.proofs.serving.serve.Goals as goal

pub returns-clause-completeness : goal.returns-clause-completeness
returns-clause-completeness g c =
    completes (g.K.Sink.written c.args.out.now) (g.K.Sink.written c.written.new.out) (g.K.Sink.faults c.args.out.now) (g.K.Sink.faults c.written.new.out)
    (g.S.Shelf.holds c.args.shelf.now) (g.S.Shelf.faults c.args.shelf.now) (g.S.Shelf.faults c.written.new.shelf)
    (words_of (map string_bytes c.args.words.now)) c.written.result c.written.ensures.ends
