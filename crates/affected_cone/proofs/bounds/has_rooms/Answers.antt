use Rattle.std.proofs.Common.{ap, ◌∙◌}
use Rattle.carried_times.specs.Carry.{time_of}
use Rattle.affected_cone.proofs.BoundLaws.{both_rooms}
use Rattle.affected_cone.proofs.SearchLaws.{ok_more}
use Rattle.affected_cone.proofs.bounds.has_rooms.Goals as goal

pub returns-then-branch : goal.returns-then-branch
returns-then-branch c =
    ok_more c.has_room-then-branch.result
    (λ is h yes.
    both_rooms c.args.base.now.graph.now.stored c.args.search.now.store.now c.args.carried.now c.args.kind c.args.pin c.args.slack.0 c.data_split-split.result c.data_split-split.ensures
    c.of-rise.result c.of-fall.result (c.of-rise.ensures ∙ ap (time_of c.data_split-split.result) c.at.ensures)
    (c.of-fall.ensures ∙ ap (time_of c.data_split-split.result) c.at-2.ensures) (c.in_ok-has_room.ensures c.if-branch.true) (h yes))
    c.has_room-then-branch.ensures
