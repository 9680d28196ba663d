use Rattle.bounded_slack.proofs.TwoEnds.{turned_ok}
use Rattle.bounded_slack.proofs.either_ends.least_of_two.Goals as goal

pub end_room-requires : goal.end_room-requires
end_room-requires g c = c.requires.other.shape

pub end_room-requires-2 : goal.end_room-requires-2
end_room-requires-2 g c = c.requires.one.shape

pub least_in_turn-requires-clause-first : goal.least_in_turn-requires-clause-first
least_in_turn-requires-clause-first g c = c.requires.other

pub least_in_turn-requires-clause-second : goal.least_in_turn-requires-clause-second
least_in_turn-requires-clause-second g c = c.requires.one

pub returns-then-is_less : goal.returns-then-is_less
returns-then-is_less g c = turned_ok (g.F.Fan.net c.args.one.now) (g.F.Fan.net c.args.other.now) c.least_in_turn.result c.least_in_turn.ensures

pub least_in_turn-requires-2-clause-first : goal.least_in_turn-requires-2-clause-first
least_in_turn-requires-2-clause-first g c = c.requires.one

pub least_in_turn-requires-2-clause-second : goal.least_in_turn-requires-2-clause-second
least_in_turn-requires-2-clause-second g c = c.requires.other
