use Rattle.netlist_store.specs.Numbering.{name_at}
use Rattle.node_rows.specs.declared.unfit.Unfit.TheVariants.{Range}
use Rattle.node_rows.specs.Evaluation.{IsUnfit}
use Rattle.node_rows.specs.NetTrees.{is_wide_net}
use Rattle.store_pins.proofs.PinLaws.{there}
use Rattle.node_rows.proofs.NetSteps.{wide_early, wide_late}
use Rattle.node_rows.proofs.ResultLaws.{handed_up}
use Rattle.node_rows.proofs.wire_tables.bare_loads.Goals as goal

pub returns-in_err-early-clause-err : goal.returns-in_err-early-clause-err
returns-in_err-early-clause-err c =
    let n = there (name_at c.args.store.now.nets c.args.net) c.requires.net in
    handed_up c.from_residual.result Range (IsUnfit (is_wide_net c.args.store.now c.args.net)) c.from_residual.ensures.1
    (wide_early c.args.store.now c.args.net n.0 n.1 c.in_err-early.ensures.err)

pub returns-in_err-late-clause-err : goal.returns-in_err-late-clause-err
returns-in_err-late-clause-err c =
    let n = there (name_at c.args.store.now.nets c.args.net) c.requires.net in
    handed_up c.from_residual-in_err-late.result Range (IsUnfit (is_wide_net c.args.store.now c.args.net)) c.from_residual-in_err-late.ensures.1
    (wide_late c.args.store.now c.args.net n.0 n.1 c.in_err-late.ensures.err)
