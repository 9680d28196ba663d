use Rattle.pin_graph.proofs.PlaceLaws.{in_place_more}
use Rattle.pin_graph.proofs.places.places_in.Goals as goal

pub loop-place-preserved : goal.loop-place-preserved
loop-place-preserved c =
    in_place_more c.args.n c.args.nodes.now c.loop-place.places.items c.loop-place.place c.loop-place.invariant
    (c.requires.nodes c.loop-place.place (record { level = 0; node = 0 }) c.loop-place-test.true)
