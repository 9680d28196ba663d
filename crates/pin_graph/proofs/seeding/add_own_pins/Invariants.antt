use Rattle.std.proofs.Common.{◌≡◌, ◌++◌, take}
use Rattle.std.specs.List.{filter_map}
use Rattle.pin_graph.specs.Joins.{own_number}
use Rattle.pin_graph.proofs.seeding.add_own_pins.Given as goal

abbrev pub invariant-loop-pin : goal.invariant-loop-pin
invariant-loop-pin l = l.pins ≡ l.initial.pins ++ filter_map (λ pin. own_number l.store l.inst pin.name) (take l.pin-index l.pin-items)
