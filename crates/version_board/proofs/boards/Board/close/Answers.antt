use Rattle.std.proofs.Common.{◌≡◌, map}
use Rattle.std.specs.List.{Contains}
use Rattle.std.proofs.lemmas.List.Elements.{All-weaker}
use Rattle.version_board.specs.History.{holders}
use Rattle.version_board.specs.Callers.{number}
use Rattle.version_board.proofs.Gathering.{all_agree, contained}
use Rattle.version_board.proofs.boards.Board.close.Goals as goal

pub returns-clause-seats : goal.returns-clause-seats
returns-clause-seats g c = all_agree g.T.Stands.by (g.T.Stands.entries c.finish.result.value) c.args.seats.items c.gather-whole.result.me.0 c.gather-whole.ensures.seats c.finish.ensures.2

pub returns-clause-entries : goal.returns-clause-entries
returns-clause-entries g c = All-weaker (λ e. holders (g.T.Stands.by e) c.gather-whole.result.me.0 ≡ 1) (λ e. Contains (map number c.args.seats.items) (g.T.Stands.by e))
    (λ e k. contained c.args.seats.items c.gather-whole.result.me.0 c.gather-whole.ensures.seats (g.T.Stands.by e) k) (g.T.Stands.entries c.finish.result.value) c.finish.ensures.3
