use Rattle.std.proofs.Common.{◌≡◌, None, drop}
use Rattle.bounded_slack.specs.Rows.{signed_on, least_room}
use Rattle.bounded_slack.proofs.rooms.least_room.Given as goal

abbrev pub invariant-loop-low : goal.invariant-loop-low
invariant-loop-low l = least_room (signed_on l.kind l.times) l.least (drop l.low-index l.lows) ≡ least_room (signed_on l.kind l.times) None l.lows
