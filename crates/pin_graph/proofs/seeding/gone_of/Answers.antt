use Rattle.std.proofs.Common.{get_or}
use Rattle.std.proofs.lemmas.List.{get_or_default}
use Rattle.pin_graph.specs.Seeds.{gone_at}
use Rattle.pin_graph.proofs.ArcLaws.{first_mapped_more}
use Rattle.pin_graph.proofs.seeding.gone_of.Goals as goal

pub loop-pin-preserved : goal.loop-pin-preserved
loop-pin-preserved c =
    first_mapped_more (gone_at c.args.store.now) c.loop-pin.gone c.add_number.new.numbers c.args.pins.now c.loop-pin.pin-index (get_or c.args.pins.now c.loop-pin.pin-index 0)
    c.gone_at.result c.loop-pin-test.true (get_or_default c.args.pins.now c.loop-pin.pin-index 0 (get_or c.args.pins.now c.loop-pin.pin-index 0) c.loop-pin-test.true)
    c.gone_at.ensures c.loop-pin.invariant c.in_ok-add_number.ensures
