use Rattle.std.proofs.Common.{◌≡◌, true, false, ap, ◌∙◌, rules, FitsSigned, w64}
use Rattle.std.proofs.lemmas.Int.{to_z-of_z}
use Rattle.timing_rules.specs.Rows.{factor_of}
use Rattle.timing_defs.specs.declared.constraints.Constraints.{Constraints}
use Rattle.node_rows.specs.Evaluation.{IsAlong, told_wide}
use Rattle.node_rows.proofs.ValueForms.{wire_low, delay_wrong}
use Rattle.node_rows.proofs.ResultLaws.{passed_wrong}
use Rattle.node_rows.proofs.values.net_values.Goals as goal

pub scaled-requires-clause-delay : goal.scaled-requires-clause-delay
scaled-requires-clause-delay c =
    let x : FitsSigned w64 c.wire_delay.result = search rules in
    simp to_z-of_z (wire_low c.args.setting.now.store.now c.args.setting.now.wires.now c.requires.setting.wires c.args.split c.args.to c.args.before.now c.requires.joined c.requires.drives c.wire-wire.result c.wire-wire.ensures c.wire_delay.result c.wire_delay.ensures)

pub returns-in_err-delay : goal.returns-in_err-delay
returns-in_err-delay c =
    let x : FitsSigned w64 c.wire_delay.result = search rules in
    let wrong = simp to_z-of_z at c.in_err-delay.ensures.err in
    passed_wrong c.from_residual.result c.in_err-delay.field-0.0 (IsAlong c.args.setting.now.store.now c.args.split c.args.to c.args.before.now)
    (λ _. told_wide c.args.setting.now.store.now c.args.split c.args.to c.args.before.now ≡ true) c.from_residual.ensures.1
    (delay_wrong c.args.setting.now.store.now c.args.setting.now.wires.now c.requires.setting.wires c.args.split c.args.to c.args.before.now c.requires.joined c.requires.drives c.wire-wire.result c.wire-wire.ensures c.factor_of-factor.result
    (c.factor_of-factor.ensures.value ∙ ap (λ (k : Constraints). factor_of k.derates c.args.split false) c.constraints.ensures) c.wire_delay.result c.wire_delay.ensures wrong)
