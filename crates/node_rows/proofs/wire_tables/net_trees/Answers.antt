use Rattle.timing_defs.specs.declared.kinds.Split.TheVariants.{Early, Late}
use Rattle.timing_rules.specs.Range.{is_net_origin}
use Rattle.node_rows.specs.Evaluation.{IsUnfit}
use Rattle.node_rows.specs.NetTrees.{is_wide_tree}
use Rattle.node_rows.proofs.TreeNets.{no_origin, early_origin, late_origin}
use Rattle.node_rows.proofs.UnfitLaws.{unfit_more}
use Rattle.node_rows.proofs.ResultLaws.{handed_up}
use Rattle.node_rows.proofs.wire_tables.net_trees.Goals as goal

pub returns-in_err-early-clause-err : goal.returns-in_err-early-clause-err
returns-in_err-early-clause-err c =
    handed_up c.from_residual.result c.in_err-early.field-0.0 (IsUnfit (is_net_origin c.args.store.now.design c.args.rc.now.net)) c.from_residual.ensures.1
    (unfit_more (is_wide_tree c.args.store.now c.args.rc.now c.args.root c.args.pins.now Early) (is_net_origin c.args.store.now.design c.args.rc.now.net) c.in_err-early.field-0.0
    (early_origin c.args.store.now c.laws.ensures.numbered c.laws.ensures.linked c.args.rc.now c.args.root c.args.pins.now c.requires.net)
    c.in_err-early.ensures.err)

pub returns-in_err-late-clause-err : goal.returns-in_err-late-clause-err
returns-in_err-late-clause-err c =
    handed_up c.from_residual-in_err-late.result c.in_err-late.field-0.0 (IsUnfit (is_net_origin c.args.store.now.design c.args.rc.now.net)) c.from_residual-in_err-late.ensures.1
    (unfit_more (is_wide_tree c.args.store.now c.args.rc.now c.args.root c.args.pins.now Late) (is_net_origin c.args.store.now.design c.args.rc.now.net) c.in_err-late.field-0.0
    (late_origin c.args.store.now c.laws.ensures.numbered c.laws.ensures.linked c.args.rc.now c.args.root c.args.pins.now c.requires.net)
    c.in_err-late.ensures.err)

pub returns-clause-trees : goal.returns-clause-trees
returns-clause-trees c =
    record { early = c.in_ok-early.ensures.tree; late = c.in_ok-late.ensures.tree c.in_ok-early.early c.in_ok-early.ensures.tree }

pub returns-clause-fine : goal.returns-clause-fine
returns-clause-fine c =
    no_origin c.args.store.now c.laws.ensures.numbered c.laws.ensures.linked c.args.rc.now c.args.root c.args.pins.now c.requires.net
    c.in_ok-early.ensures.fine (c.in_ok-late.ensures.fine c.in_ok-early.ensures.fine)
