use Rattle.std.proofs.Common.{◌≡◌, Some, ap, ◌∙◌}
use Rattle.timing_defs.specs.declared.kinds.Split.TheVariants.{Early, Late}
use Rattle.timing_defs.specs.declared.rows.NodeRow.{NodeRow}
use Rattle.timing_defs.specs.Netlist.{Node}
use Rattle.node_rows.specs.declared.unfit.Unfit.{Unfit}
use Rattle.node_rows.specs.declared.rows.SplitRow.{SplitRow}
use Rattle.node_rows.specs.Evaluation.{HaveRows, IsUnfit, node_of, is_wide, is_wide_split}
use Rattle.node_rows.proofs.PairLaws.{pairs_told}
use Rattle.node_rows.proofs.RowForms.{whole_row, wide_row}
use Rattle.node_rows.proofs.UnfitLaws.{unfit_more}
use Rattle.node_rows.proofs.ResultLaws.{handed_up}
use Rattle.node_rows.proofs.rows.both_rows.Goals as goal

pub returns-in_err-early-clause-err : goal.returns-in_err-early-clause-err
returns-in_err-early-clause-err c =
    handed_up c.from_residual.result c.in_err-early.field-0.0
    (λ (unfit : Unfit). (row_of : Node → NodeRow) (node : Node) → node_of c.args.setting.now.store.now c.args.to ≡ Some node → HaveRows c.args.setting.now.store.now row_of c.args.before.now
    → IsUnfit (is_wide c.args.setting.now.store.now.design row_of node) unfit)
    c.from_residual.ensures.1
    (λ row_of node is rows.
    unfit_more (is_wide_split c.args.setting.now.store.now Early c.args.to c.args.before.now) (is_wide c.args.setting.now.store.now.design row_of node) c.in_err-early.field-0.0
    (wide_row c.args.setting.now.store.now c.args.to c.args.before.now c.requires.before row_of rows node is c.laws.ensures.linked.constraints Early)
    c.in_err-early.ensures.err)

pub returns-in_err-late-clause-err : goal.returns-in_err-late-clause-err
returns-in_err-late-clause-err c =
    handed_up c.from_residual-in_err-late.result c.in_err-late.field-0.0
    (λ (unfit : Unfit). (row_of : Node → NodeRow) (node : Node) → node_of c.args.setting.now.store.now c.args.to ≡ Some node → HaveRows c.args.setting.now.store.now row_of c.args.before.now
    → IsUnfit (is_wide c.args.setting.now.store.now.design row_of node) unfit)
    c.from_residual-in_err-late.ensures.1
    (λ row_of node is rows.
    unfit_more (is_wide_split c.args.setting.now.store.now Late c.args.to c.args.before.now) (is_wide c.args.setting.now.store.now.design row_of node) c.in_err-late.field-0.0
    (wide_row c.args.setting.now.store.now c.args.to c.args.before.now c.requires.before row_of rows node is c.laws.ensures.linked.constraints Late)
    c.in_err-late.ensures.err)

pub returns-clause-row : goal.returns-clause-row
returns-clause-row c =
    λ row_of node is rows.
    whole_row c.args.setting.now.store.now c.args.to c.args.before.now c.requires.before row_of rows node is c.laws.ensures.linked.constraints c.in_ok-early.early c.in_ok-late.late
    c.in_ok-early.ensures.row c.in_ok-late.ensures.row c.in_ok-early.ensures.fine c.in_ok-late.ensures.fine

pub returns-clause-delays : goal.returns-clause-delays
returns-clause-delays c =
    pairs_told c.args.setting.now.store.now c.args.to c.args.before.now c.as_slice.result.now c.as_slice-2.result.now c.in_ok-delays.delays
    (c.as_slice.ensures ∙ ap (λ (r : SplitRow). r.values) c.in_ok-early.ensures.row) (c.as_slice-2.ensures ∙ ap (λ (r : SplitRow). r.values) c.in_ok-late.ensures.row)
    c.in_ok-delays.ensures
