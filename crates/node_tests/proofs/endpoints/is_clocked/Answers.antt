use Rattle.std.proofs.Common.{◌≡◌, Some, refl}
use Rattle.std.specs.Prelude.{option_map}
use Rattle.std.specs.List.{list_any}
use Rattle.timing_rules.specs.Tests.{is_clocked}
use Rattle.netlist_store.specs.Numbering.{pin_numbered}
use Rattle.node_rows.proofs.ResultLaws.{ok_more}
use Rattle.node_tests.specs.Endpoints.{is_clocked_by}
use Rattle.node_tests.proofs.ClockedLaws.{port_clocked, inst_clocked, pin_is}
use Rattle.node_tests.proofs.endpoints.is_clocked.Goals as goal

pub returns-in-Some : goal.returns-in-Some
returns-in-Some c =
    ok_more c.is_clocked_any.result
    (λ on. on ≡ list_any (is_clocked_by c.args.store.now c.args.kind c.in-Some.inst c.own_name.result.now c.cell_at-cell.result.now.tests) c.cell_at-cell.result.now.pins)
    (λ on. option_map (is_clocked c.args.store.now.design c.args.kind) (pin_numbered c.args.store.now c.args.pin) ≡ Some on)
    (λ on e. inst_clocked c.args.store.now c.laws.ensures.numbered c.laws.ensures.linked c.args.pin c.requires.pin c.args.kind c.in-Some.inst c.own_name.result.now c.cell_at-cell.result.now
    c.cell_at-cell.result.now.pins c.cell_at-cell.result.now.tests on c.in-Some.ensures.value c.own_name.ensures c.cell_at-cell.ensures refl refl e)
    c.is_clocked_any.ensures

pub returns-in-None : goal.returns-in-None
returns-in-None c =
    port_clocked c.args.store.now.design c.args.kind (pin_numbered c.args.store.now c.args.pin)
    (pin_is c.args.store.now c.laws.ensures.numbered c.laws.ensures.linked c.args.pin c.requires.pin) c.in-None.ensures.none
