use Rattle.std.proofs.Common.{ap, ◌∙◌}
use Rattle.bounded_slack.specs.Cuts.{room_of}
use Rattle.bounded_slack.proofs.either_ends.end_room.Goals as goal

pub at_end-requires : goal.at_end-requires
at_end-requires g c = c.requires

pub room-requires-clause-net : goal.room-requires-clause-net
room-requires-clause-net g c = c.requires

pub room-requires-clause-held : goal.room-requires-clause-held
room-requires-clause-held g c = c.at_end.ensures.held

pub returns : goal.returns
returns g c = c.room.ensures ∙ ap (room_of (g.F.Fan.net c.args.fan.now)) c.at_end.ensures.end
