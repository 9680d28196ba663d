use Rattle.std.proofs.Common.{◌≡◌, ◌++◌, take}
use Rattle.std.specs.List.{filter_map}
use Rattle.pin_graph.specs.Joins.{own_number}
use Rattle.pin_graph.proofs.networks.add_cell_tests.Given as goal

abbrev pub invariant-loop-test : goal.invariant-loop-test
invariant-loop-test l = l.pins ≡ l.initial.pins ++ filter_map (λ test. own_number l.store l.inst test.clock) (take l.test-index l.test-items)
