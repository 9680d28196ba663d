use Rattle.std.proofs.Common.{◌≡◌, take}
use Rattle.std.specs.List.{flat_map}
use Rattle.pin_graph.specs.Seeds.{numbers_of}
use Rattle.pin_graph.proofs.seeding.nodes_of.Given as goal

abbrev pub invariant-loop-pin : goal.invariant-loop-pin
invariant-loop-pin l = l.nodes ≡ flat_map numbers_of (take l.pin-index l.pins)
