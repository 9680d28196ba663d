use Rattle.std.proofs.Common.{◌≡◌, take}
use Rattle.std.specs.List.{filter_map}
use Rattle.pin_graph.specs.Seeds.{gone_at}
use Rattle.pin_graph.proofs.seeding.gone_of.Given as goal

abbrev pub invariant-loop-pin : goal.invariant-loop-pin
invariant-loop-pin l = l.gone ≡ filter_map (gone_at l.store) (take l.pin-index l.pins)
