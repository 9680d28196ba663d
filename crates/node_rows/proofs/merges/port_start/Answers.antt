use Rattle.std.proofs.Common.{◌&&◌, List, sym, ap, ◌∙◌}
use Rattle.std.specs.List.{list_any}
use Rattle.timing_defs.specs.declared.constraints.Clock.{Clock}
use Rattle.timing_defs.specs.declared.constraints.Constraints.{Constraints}
use Rattle.timing_defs.specs.Netlist.{same_tran}
use Rattle.timing_rules.specs.Rows.{is_clock_at}
use Rattle.node_rows.specs.Evaluation.{has_clock}
use Rattle.node_rows.proofs.ConstraintLaws.{inputs_apart}
use Rattle.node_rows.proofs.SlewForms.{clock_starts, delay_starts, none_starts}
use Rattle.node_rows.proofs.merges.port_start.Goals as goal

pub returns-then-is_clock_port : goal.returns-then-is_clock_port
returns-then-is_clock_port c =
    let clocks = c.as_slice-clocks.ensures ∙ ap (λ (k : Constraints). k.clocks) c.constraints.ensures in
    clock_starts c.args.setting.now.store.now c.laws.ensures.numbered c.laws.ensures.linked c.args.to c.requires.pin c.requires.port c.pin_name-name.result.now c.pin_name-name.ensures c.args.split c.args.clock c.args.tran
    (ap (list_any (has_clock c.pin_name-name.result.now)) (sym clocks) ∙ sym c.is_clock_port.ensures ∙ c.if-is_clock_port.true)
    c.is_own_edge.result
    (c.is_own_edge.ensures ∙ ap (λ (cs : List Clock). is_clock_at cs c.args.clock c.pin_name-name.result.now && same_tran c.args.tran c.args.to.tran) clocks)
    c.clock_start.result c.clock_start.ensures

pub returns-in-Rise : goal.returns-in-Rise
returns-in-Rise c =
    let clocks = c.as_slice-clocks.ensures ∙ ap (λ (k : Constraints). k.clocks) c.constraints.ensures in
    delay_starts c.args.setting.now.store.now c.laws.ensures.numbered c.laws.ensures.linked c.args.to c.requires.pin c.requires.port c.pin_name-name.result.now c.pin_name-name.ensures c.args.split c.args.clock c.args.tran
    (ap (list_any (has_clock c.pin_name-name.result.now)) (sym clocks) ∙ sym c.is_clock_port.ensures ∙ c.if-is_clock_port.false)
    c.in-Rise.is c.input_delay.result
    (c.input_delay.ensures c.args.setting.now.store.now.design.constraints c.requires.setting.ports
    (inputs_apart c.args.setting.now.store.now.design.constraints c.laws.ensures.linked.constraints))

pub returns-in-Fall : goal.returns-in-Fall
returns-in-Fall c =
    let clocks = c.as_slice-clocks.ensures ∙ ap (λ (k : Constraints). k.clocks) c.constraints.ensures in
    none_starts c.args.setting.now.store.now c.laws.ensures.numbered c.laws.ensures.linked c.args.to c.requires.pin c.requires.port c.pin_name-name.result.now c.pin_name-name.ensures c.args.split c.args.clock c.args.tran
    (ap (list_any (has_clock c.pin_name-name.result.now)) (sym clocks) ∙ sym c.is_clock_port.ensures ∙ c.if-is_clock_port.false)
    c.in-Fall.is
