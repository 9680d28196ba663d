use Rattle.design_link.proofs.CellLaws.{more_places}
use Rattle.design_link.proofs.cell_tables.places_of.Goals as goal

pub loop-place-preserved : goal.loop-place-preserved
loop-place-preserved c =
    more_places c.args.cells.now c.loop-place.place c.index-cells-place.result c.loop-place.places.entries c.add_place.new.places.entries
    c.loop-place-test.true c.index-cells-place.is c.in_ok-add_place.ensures c.loop-place.invariant
