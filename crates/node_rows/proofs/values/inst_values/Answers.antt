use Rattle.std.proofs.Common.{◌≡◌, true, false, Some, sym, ap, ◌∙◌, rules, FitsSigned, w64}
use Rattle.std.specs.List.{list_all}
use Rattle.std.proofs.lemmas.Int.{to_z-of_z}
use Rattle.timing_rules.specs.Range.{within_some}
use Rattle.node_rows.specs.declared.arcs.ArcValues.{ArcValues}
use Rattle.node_rows.specs.Between.{has_tables, are_within}
use Rattle.node_rows.specs.Evaluation.{IsAlong, told_wide, scaled_values}
use Rattle.node_rows.proofs.InstForms.{from_number, tables_there}
use Rattle.node_rows.proofs.ValueForms.{looked_wrong, scaled_along, scaled_wrong}
use Rattle.node_rows.proofs.ResultLaws.{carried, passed_wrong}
use Rattle.node_rows.proofs.values.inst_values.Goals as goal

pub ends_between-ends-requires : goal.ends_between-ends-requires
ends_between-ends-requires c = record { from = from_number c.args.setting.now.store.now c.args.to c.args.before.now.node c.requires.joined }

pub scaled_values-requires-clause-factor : goal.scaled_values-requires-clause-factor
scaled_values-requires-clause-factor c = c.requires.cell.low_factor

pub arc_values-requires-clause-load : goal.arc_values-requires-clause-load
arc_values-requires-clause-load c =
    let y : FitsSigned w64 c.args.cell.now.load = search rules in
    simp to_z-of_z c.requires.cell.low_load

pub arc_values-requires-clause-tables : goal.arc_values-requires-clause-tables
arc_values-requires-clause-tables c =
    ap (list_all has_tables) c.requires.cell.arcs
    ∙ tables_there c.args.setting.now.store.now c.laws.ensures.numbered c.laws.ensures.linked c.args.split c.args.to c.args.before.now c.requires.joined
    c.requires.cell.inst c.requires.cell.owner c.requires.cell.cell c.requires.cell.there

pub returns-in_err-values : goal.returns-in_err-values
returns-in_err-values c =
    let x : FitsSigned w64 c.args.slew = search rules in
    let y : FitsSigned w64 c.args.cell.now.load = search rules in
    let wrong = simp to_z-of_z at c.in_err-values.ensures.err in
    passed_wrong c.from_residual.result c.in_err-values.field-0.0 (IsAlong c.args.setting.now.store.now c.args.split c.args.to c.args.before.now)
    (λ _. told_wide c.args.setting.now.store.now c.args.split c.args.to c.args.before.now ≡ true) c.from_residual.ensures.1
    (looked_wrong c.args.setting.now.store.now c.laws.ensures.numbered c.laws.ensures.linked c.args.split c.args.to c.args.before.now c.requires.joined c.requires.cell.inst c.requires.cell.owner c.requires.cell.cell c.requires.cell.there
    c.ends_between-ends.result c.ends_between-ends.ensures.registers c.ends_between-ends.ensures.from c.ends_between-ends.ensures.from_tran (c.requires.cell.own ∙ ap Some (sym c.ends_between-ends.ensures.to)) c.ends_between-ends.ensures.to_tran
    c.args.cell.now.arcs.now c.requires.cell.arcs c.requires.drives c.args.slew c.args.cell.now.load c.requires.slew c.requires.cell.load wrong)

pub returns : goal.returns
returns c =
    let x : FitsSigned w64 c.args.slew = search rules in
    let y : FitsSigned w64 c.args.cell.now.load = search rules in
    let looked = simp to_z-of_z at c.in_ok-values.ensures.values in
    let fine = simp to_z-of_z at c.in_ok-values.ensures.fine in
    carried c.scaled_values.result (λ told. told ≡ scaled_values c.in_ok-values.values c.args.cell.now.factor) (λ (told : ArcValues). are_within told ≡ true)
    (IsAlong c.args.setting.now.store.now c.args.split c.args.to c.args.before.now)
    (λ _. within_some (scaled_values c.in_ok-values.values c.args.cell.now.factor).delay ≡ false) (λ _. told_wide c.args.setting.now.store.now c.args.split c.args.to c.args.before.now ≡ true)
    (scaled_along c.args.setting.now.store.now c.laws.ensures.numbered c.laws.ensures.linked c.args.split c.args.to c.args.before.now c.requires.joined c.requires.cell.inst c.requires.cell.owner c.requires.cell.cell c.requires.cell.there
    c.ends_between-ends.result c.ends_between-ends.ensures.registers c.ends_between-ends.ensures.from c.ends_between-ends.ensures.from_tran (c.requires.cell.own ∙ ap Some (sym c.ends_between-ends.ensures.to)) c.ends_between-ends.ensures.to_tran
    c.args.cell.now.arcs.now c.requires.cell.arcs c.requires.drives c.args.slew c.args.cell.now.load c.requires.slew c.requires.cell.load
    c.in_ok-values.values c.args.cell.now.factor looked fine c.in_ok-values.ensures.within c.requires.cell.factor)
    (λ _ wrong. scaled_wrong c.args.setting.now.store.now c.laws.ensures.numbered c.laws.ensures.linked c.args.split c.args.to c.args.before.now c.requires.joined c.requires.cell.inst c.requires.cell.owner c.requires.cell.cell c.requires.cell.there
    c.ends_between-ends.result c.ends_between-ends.ensures.registers c.ends_between-ends.ensures.from c.ends_between-ends.ensures.from_tran (c.requires.cell.own ∙ ap Some (sym c.ends_between-ends.ensures.to)) c.ends_between-ends.ensures.to_tran
    c.args.cell.now.arcs.now c.requires.cell.arcs c.requires.drives c.args.slew c.args.cell.now.load c.requires.slew c.requires.cell.load
    c.in_ok-values.values c.args.cell.now.factor looked fine c.in_ok-values.ensures.within c.requires.cell.factor wrong)
    c.scaled_values.ensures.value c.scaled_values.ensures.within c.scaled_values.ensures.err
