use Rattle.std.proofs.Common.{◌≡◌, ◌<◌, length, sym, subst}
use Rattle.std.proofs.lemmas.List.{length-map}
use Rattle.command_words.specs.Asked.{run_words}
use Rattle.shell_core.proofs.ReadLemmas.{stops_here, read_joined}
use Rattle.shell_core.proofs.documents.with_next.Goals as goal

pub returns-in-Ok-clause-value : goal.returns-in-Ok-clause-value
returns-in-Ok-clause-value g c =
    let run = run_words c.args.run.now in
    let more : c.args.count < length run.scripts = subst (λ n. c.args.count < n) (sym (length-map c.args.run.now.scripts.items (λ s. s.now))) c.requires.more in
    read_joined (g.S.Shelf.holds c.args.shelf.now) run c.args.count c.args.scripts c.in-Ok.script c.joined.result (g.S.Shelf.faults c.session.new.shelf ≡ g.S.Shelf.faults c.args.shelf.now)
    c.requires.read more c.in-Ok.ensures.value.0 c.in-Ok.ensures.kept c.joined.ensures c.in-Ok.ensures.value.1

pub returns-in-Err-clause-stop : goal.returns-in-Err-clause-stop
returns-in-Err-clause-stop g c =
    let run = run_words c.args.run.now in
    let more : c.args.count < length run.scripts = subst (λ n. c.args.count < n) (sym (length-map c.args.run.now.scripts.items (λ s. s.now))) c.requires.more in
    stops_here (g.S.Shelf.holds c.args.shelf.now) run c.args.count c.args.scripts (g.S.Shelf.faults c.args.shelf.now) (g.S.Shelf.faults c.session.new.shelf) c.in-Err.stop
    c.requires.read more c.in-Err.ensures.stop
