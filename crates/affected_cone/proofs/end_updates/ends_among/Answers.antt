use Rattle.std.proofs.Common.{get_or}
use Rattle.std.proofs.lemmas.List.{get_or_default}
use Rattle.pin_graph.proofs.ArcLaws.{first_mapped_more}
use Rattle.affected_cone.specs.Renewed.{end_number}
use Rattle.affected_cone.proofs.end_updates.ends_among.Goals as goal

pub loop-pin-preserved : goal.loop-pin-preserved
loop-pin-preserved c =
    first_mapped_more (end_number c.args.store.now) c.loop-pin.ends c.add_number.new.numbers c.args.pins.now c.loop-pin.pin-index (get_or c.args.pins.now c.loop-pin.pin-index 0) c.end_number.result
    c.loop-pin-test.true (get_or_default c.args.pins.now c.loop-pin.pin-index 0 _ c.loop-pin-test.true) c.end_number.ensures c.loop-pin.invariant c.in_ok-add_number.ensures
