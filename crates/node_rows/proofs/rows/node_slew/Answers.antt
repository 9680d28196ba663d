use Rattle.std.proofs.Common.{Some, ap, ◌∙◌, rules, FitsSigned, w64}
use Rattle.std.proofs.lemmas.Int.{to_z-of_z}
use Rattle.node_rows.proofs.SlewForms.{slew_told, slew_within}
use Rattle.node_rows.proofs.rows.node_slew.Goals as goal

pub returns-then-is_input_port-clause-value : goal.returns-then-is_input_port-clause-value
returns-then-is_input_port-clause-value c =
    let f : FitsSigned w64 c.slew.result = search rules in
    simp to_z-of_z
    (slew_told c.args.setting.now.store.now c.laws.ensures.numbered c.laws.ensures.linked c.args.to c.requires.pin (c.is_input_port.ensures ∙ ap Some c.if-is_input_port.true)
    c.pin_name-name.result.now c.pin_name-name.ensures c.args.split c.args.values.now c.slew.result
    (c.slew.ensures c.args.setting.now.store.now.design.constraints c.requires.setting.ports))

pub returns-then-is_input_port-clause-within : goal.returns-then-is_input_port-clause-within
returns-then-is_input_port-clause-within c =
    let f : FitsSigned w64 c.slew.result = search rules in
    simp to_z-of_z
    (slew_within c.args.setting.now.store.now c.laws.ensures.numbered c.laws.ensures.linked c.args.to c.requires.pin (c.is_input_port.ensures ∙ ap Some c.if-is_input_port.true)
    c.pin_name-name.result.now c.pin_name-name.ensures c.args.split c.slew.result
    (c.slew.ensures c.args.setting.now.store.now.design.constraints c.requires.setting.ports))
