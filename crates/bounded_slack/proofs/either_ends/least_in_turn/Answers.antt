use Rattle.std.proofs.Common.{sym, ap, ◌∙◌}
use Rattle.bounded_slack.specs.Cuts.{is_shut}
use Rattle.bounded_slack.proofs.TwoEnds.{first_alone, lesser_of_two}
use Rattle.bounded_slack.proofs.either_ends.least_in_turn.Goals as goal

pub least_slack-requires : goal.least_slack-requires
least_slack-requires g c = c.requires.first

pub end_room-requires : goal.end_room-requires
end_room-requires g c = c.requires.second.shape

pub returns-then-is_shut : goal.returns-then-is_shut
returns-then-is_shut g c =
    first_alone (g.F.Fan.net c.args.first.now) (g.F.Fan.net c.args.second.now) c.in_ok-known.known c.in_ok-known.ensures c.requires.second
    (ap (is_shut c.in_ok-known.known) (sym c.end_room.ensures) ∙ sym c.is_shut.ensures ∙ c.if-is_shut.true)

pub least_slack-requires-2 : goal.least_slack-requires-2
least_slack-requires-2 g c = c.requires.second

pub returns : goal.returns
returns g c =
    lesser_of_two (g.F.Fan.net c.args.first.now) (g.F.Fan.net c.args.second.now) c.in_ok-known.known c.in_ok-found.found c.lesser.result c.in_ok-known.ensures
    c.in_ok-found.ensures c.lesser.ensures
