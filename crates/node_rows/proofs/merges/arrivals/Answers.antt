use Rattle.std.proofs.Common.{◌<◌, [], ◌∷◌, List, length, subst, ap, ◌∙◌, arith}
use Rattle.timing_defs.specs.declared.constraints.Clock.{Clock}
use Rattle.timing_defs.specs.declared.constraints.Constraints.{Constraints}
use Rattle.timing_defs.specs.declared.kinds.Tran.TheVariants.{Rise, Fall}
use Rattle.timing_rules.specs.Rows.{launch_edges}
use Rattle.node_rows.specs.Evaluation.{IsUnfit, arrival_over, are_wide_times}
use Rattle.node_rows.proofs.ConstraintLaws.{few_clocks}
use Rattle.node_rows.proofs.StepLaws.{timed, wide_time}
use Rattle.node_rows.proofs.UnfitLaws.{unfit_more}
use Rattle.node_rows.proofs.ResultLaws.{handed_up}
use Rattle.node_rows.proofs.merges.arrivals.Goals as goal

pub overflow_cast-at : goal.overflow_cast-at
overflow_cast-at c =
    let few = few_clocks c.args.setting.now.store.now.design.constraints c.laws.ensures.linked.constraints in
    let low = subst (λ (xs : List Clock). c.loop-at.at < length xs) (c.as_slice-items.ensures ∙ ap (λ (k : Constraints). k.clocks) c.constraints.ensures) c.loop-at-test.true in
    omega (arith, few, low)

pub returns-in_err-add_clock-clause-err : goal.returns-in_err-add_clock-clause-err
returns-in_err-add_clock-clause-err c =
    let low = subst (λ (xs : List Clock). c.loop-at.at < length xs) (c.as_slice-items.ensures ∙ ap (λ (k : Constraints). k.clocks) c.constraints.ensures) c.loop-at-test.true in
    handed_up c.from_residual.result c.in_err-add_clock.field-0.0
    (IsUnfit (are_wide_times (arrival_over c.args.setting.now.store.now c.args.split c.args.to c.args.before.now c.args.values.now) (launch_edges c.args.setting.now.store.now.design)))
    c.from_residual.ensures.1
    (unfit_more
    (are_wide_times (arrival_over c.args.setting.now.store.now c.args.split c.args.to c.args.before.now c.args.values.now) ((c.loop-at.at, Rise) ∷ (c.loop-at.at, Fall) ∷ []))
    (are_wide_times (arrival_over c.args.setting.now.store.now c.args.split c.args.to c.args.before.now c.args.values.now) (launch_edges c.args.setting.now.store.now.design))
    c.in_err-add_clock.field-0.0
    (wide_time (arrival_over c.args.setting.now.store.now c.args.split c.args.to c.args.before.now c.args.values.now) c.args.setting.now.store.now.design.constraints.clocks
    c.loop-at.times c.loop-at.at low c.loop-at.invariant)
    c.in_err-add_clock.ensures.err)

pub loop-at-preserved : goal.loop-at-preserved
loop-at-preserved c =
    let low = subst (λ (xs : List Clock). c.loop-at.at < length xs) (c.as_slice-items.ensures ∙ ap (λ (k : Constraints). k.clocks) c.constraints.ensures) c.loop-at-test.true in
    timed (arrival_over c.args.setting.now.store.now c.args.split c.args.to c.args.before.now c.args.values.now) c.args.setting.now.store.now.design.constraints.clocks
    c.loop-at.times c.loop-at.at low c.loop-at.invariant c.add_clock.new.times c.in_ok-add_clock.ensures.times c.in_ok-add_clock.ensures.fine
