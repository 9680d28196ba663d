use Rattle.std.proofs.Common.{List, map, sym, ap, ◌∙◌}
use Rattle.std.specs.List.{list_any}
use Rattle.timing_rules.specs.Rows.{launch_edges}
use Rattle.node_rows.specs.declared.arcs.ArcValues.{ArcValues}
use Rattle.node_rows.specs.Evaluation.{IsUnfit, arrival_over, are_wide_times, told_values, told_wide, is_wide_split}
use Rattle.node_rows.proofs.StepLaws.{rows_within}
use Rattle.node_rows.proofs.UnfitLaws.{unfit_more, or_right}
use Rattle.node_rows.proofs.ResultLaws.{handed_up}
use Rattle.node_rows.proofs.rows.split_row.Goals as goal

pub arrivals-requires-clause-rows : goal.arrivals-requires-clause-rows
arrivals-requires-clause-rows c = rows_within c.args.setting.now.store.now c.args.to c.args.before.now c.requires.before

pub returns-in_err-times-clause-err : goal.returns-in_err-times-clause-err
returns-in_err-times-clause-err c =
    let same = c.as_slice-2.ensures ∙ c.in_ok-values.ensures.values in
    handed_up c.from_residual-in_err-times.result c.in_err-times.field-0.0 (IsUnfit (is_wide_split c.args.setting.now.store.now c.args.split c.args.to c.args.before.now))
    c.from_residual-in_err-times.ensures.1
    (unfit_more
    (are_wide_times (arrival_over c.args.setting.now.store.now c.args.split c.args.to c.args.before.now c.as_slice-2.result.now) (launch_edges c.args.setting.now.store.now.design))
    (is_wide_split c.args.setting.now.store.now c.args.split c.args.to c.args.before.now)
    c.in_err-times.field-0.0
    (λ wide. or_right (list_any (told_wide c.args.setting.now.store.now c.args.split c.args.to) c.args.before.now)
    (are_wide_times (arrival_over c.args.setting.now.store.now c.args.split c.args.to c.args.before.now (map (told_values c.args.setting.now.store.now c.args.split c.args.to) c.args.before.now)) (launch_edges c.args.setting.now.store.now.design))
    (ap (λ (vs : List ArcValues). are_wide_times (arrival_over c.args.setting.now.store.now c.args.split c.args.to c.args.before.now vs) (launch_edges c.args.setting.now.store.now.design)) (sym same) ∙ wide))
    c.in_err-times.ensures.err)
