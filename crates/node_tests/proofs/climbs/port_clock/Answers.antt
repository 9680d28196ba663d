use Rattle.std.proofs.Common.{sym, ap, ◌∙◌}
use Rattle.timing_defs.specs.declared.constraints.Constraints.{Constraints}
use Rattle.node_tests.proofs.ClimbLaws.{clock_input}
use Rattle.node_tests.proofs.climbs.port_clock.Goals as goal

pub returns-in-Input : goal.returns-in-Input
returns-in-Input c =
    clock_input c.args.store.now c.laws.ensures.numbered c.laws.ensures.linked c.args.pin c.pin_name.result.now c.as_slice.result.now c.clock_number.result
    (sym c.inst_of.ensures.none ∙ sym c.is_some.ensures ∙ c.if-is_some.false) c.in-Input.ensures c.pin_name.ensures
    (c.as_slice.ensures ∙ ap (λ (k : Constraints). k.clocks) c.constraints.ensures) c.clock_number.ensures
