use Rattle.std.proofs.Common.{◌≡◌, drop}
use Rattle.std.specs.List.{list_any}
use Rattle.node_tests.specs.Endpoints.{is_clocked_by}
use Rattle.node_tests.proofs.endpoints.is_clocked_any.Given as goal

abbrev pub invariant-loop-pin : goal.invariant-loop-pin
invariant-loop-pin l =
    list_any (is_clocked_by l.store l.kind l.inst l.own l.cell.tests) (drop l.pin-index l.cell.pins)
    ≡ list_any (is_clocked_by l.store l.kind l.inst l.own l.cell.tests) l.cell.pins
