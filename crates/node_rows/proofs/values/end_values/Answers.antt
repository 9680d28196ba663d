use Rattle.std.proofs.Common.{◌≡◌, true, sym, ◌∙◌, rules, FitsSigned, w64}
use Rattle.std.proofs.lemmas.Int.{to_z-of_z}
use Rattle.node_rows.specs.Evaluation.{IsAlong, told_wide}
use Rattle.node_rows.proofs.ValueForms.{none_along, end_along, end_wrong}
use Rattle.node_rows.proofs.ResultLaws.{passed_wrong}
use Rattle.node_rows.proofs.values.end_values.Goals as goal

pub returns-in_default : goal.returns-in_default
returns-in_default c =
    none_along c.args.setting.now.store.now c.args.setting.now.wires.now c.requires.setting.wires c.args.split c.args.to c.args.before.now c.requires.joined c.requires.drives c.args.wire.now c.requires.wire c.args.delay c.requires.delay c.requires.within
    c.no_values.result c.no_values.ensures (sym c.slew_in.ensures ∙ c.in_default.is)

pub returns-in_err-end : goal.returns-in_err-end
returns-in_err-end c =
    let x : FitsSigned w64 c.in-Some.slew = search rules in
    let wrong = simp to_z-of_z at c.in_err-end.ensures.err in
    passed_wrong c.from_residual.result c.in_err-end.field-0.0 (IsAlong c.args.setting.now.store.now c.args.split c.args.to c.args.before.now)
    (λ _. told_wide c.args.setting.now.store.now c.args.split c.args.to c.args.before.now ≡ true) c.from_residual.ensures.1
    (end_wrong c.args.setting.now.store.now c.args.setting.now.wires.now c.requires.setting.wires c.args.split c.args.to c.args.before.now c.requires.joined c.requires.drives c.args.wire.now c.requires.wire c.args.delay c.requires.delay c.requires.within c.in-Some.slew (sym c.in-Some.ensures) wrong)

pub returns : goal.returns
returns c =
    let x : FitsSigned w64 c.in-Some.slew = search rules in
    let y : FitsSigned w64 c.in_ok-end.end = search rules in
    let z : FitsSigned w64 c.args.delay = search rules in
    let e = simp to_z-of_z at c.in_ok-end.ensures.value in
    simp to_z-of_z
    (end_along c.args.setting.now.store.now c.args.setting.now.wires.now c.requires.setting.wires c.args.split c.args.to c.args.before.now c.requires.joined c.requires.drives c.args.wire.now c.requires.wire c.args.delay c.requires.delay c.requires.within
    c.in-Some.slew c.in_ok-end.end (sym c.in-Some.ensures) e c.in_ok-end.ensures.within)
