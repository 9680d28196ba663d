use Rattle.std.specs.Prelude.{◌||◌}
use Rattle.timing_defs.specs.declared.kinds.Split.TheVariants.{Early, Late}
use Rattle.node_rows.proofs.ResultLaws.{handed_up}
use Rattle.pin_graph.specs.RowTables.{back_numbered}
use Rattle.required_engine.specs.Worked.{is_wide_back, IsUnfit}
use Rattle.required_engine.proofs.SplitLaws.{unfit_left, unfit_right, both_are, none_wide}
use Rattle.required_engine.proofs.nodes.both_times.Goals as goal

pub returns-in_err-early-clause-err : goal.returns-in_err-early-clause-err
returns-in_err-early-clause-err c =
    handed_up c.from_residual.result c.in_err-early.field-0.0
    (IsUnfit (is_wide_back c.args.store.now Early c.args.node.now.number || is_wide_back c.args.store.now Late c.args.node.now.number)) c.from_residual.ensures.1
    (unfit_left (is_wide_back c.args.store.now Early c.args.node.now.number) (is_wide_back c.args.store.now Late c.args.node.now.number)
    c.in_err-early.field-0.0 c.in_err-early.ensures.err)

pub returns-in_err-late-clause-err : goal.returns-in_err-late-clause-err
returns-in_err-late-clause-err c =
    handed_up c.from_residual-in_err-late.result c.in_err-late.field-0.0
    (IsUnfit (is_wide_back c.args.store.now Early c.args.node.now.number || is_wide_back c.args.store.now Late c.args.node.now.number)) c.from_residual-in_err-late.ensures.1
    (unfit_right (is_wide_back c.args.store.now Early c.args.node.now.number) (is_wide_back c.args.store.now Late c.args.node.now.number)
    c.in_err-late.field-0.0 c.in_err-late.ensures.err)

pub returns-clause-row : goal.returns-clause-row
returns-clause-row c =
    both_are (back_numbered c.args.store.now c.args.node.now.number) c.in_ok-early.early c.in_ok-late.late c.in_ok-early.ensures.times c.in_ok-late.ensures.times

pub returns-clause-fine : goal.returns-clause-fine
returns-clause-fine c =
    none_wide (is_wide_back c.args.store.now Early c.args.node.now.number) (is_wide_back c.args.store.now Late c.args.node.now.number) c.in_ok-early.ensures.fine c.in_ok-late.ensures.fine
