use Rattle.std.proofs.Common.{Some, sym, ap, ◌∙◌}
use Rattle.std.specs.Prelude.{option_map}
use Rattle.bounded_slack.specs.Nets.{minus_some}
use Rattle.bounded_slack.specs.Rows.{signed, edge_in}
use Rattle.bounded_slack.proofs.Bounds.{time_within}
use Rattle.bounded_slack.proofs.rooms.room_on.Goals as goal

pub left-requires-clause-low : goal.left-requires-clause-low
left-requires-clause-low c = c.requires.low

pub left-requires-clause-time : goal.left-requires-clause-time
left-requires-clause-time c = time_within c.args.times.now (edge_in c.args.low.now) c.in-Some.time.0 c.requires.times (sym c.in-Some.ensures)

pub returns-in-Some : goal.returns-in-Some
returns-in-Some c = c.left.ensures ∙ ap (λ o. minus_some (Some c.args.low.now.time.0) (option_map (signed c.args.kind) o)) c.in-Some.ensures

pub returns-in-None : goal.returns-in-None
returns-in-None c = ap (λ o. minus_some (Some c.args.low.now.time.0) (option_map (signed c.args.kind) o)) c.in-None.ensures
