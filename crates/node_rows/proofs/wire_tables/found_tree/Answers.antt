use Rattle.std.proofs.Common.{◌∙◌}
use Rattle.timing_defs.specs.declared.kinds.Split.TheVariants.{Early, Late}
use Rattle.timing_rules.specs.Range.{is_net_origin}
use Rattle.node_rows.specs.declared.unfit.Unfit.TheVariants.{Memory}
use Rattle.node_rows.specs.Evaluation.{IsUnfit}
use Rattle.node_rows.specs.NetTrees.{is_wide_net, late_of}
use Rattle.node_rows.proofs.FoundLaws.{tree_found}
use Rattle.node_rows.proofs.ResultLaws.{handed_up}
use Rattle.node_rows.proofs.TreeSteps.{wide_as, all_nodes}
use Rattle.node_rows.proofs.UnfitLaws.{unfit_more}
use Rattle.node_rows.proofs.wire_tables.found_tree.Goals as goal

pub wires_to-requires-clause-early : goal.wires_to-requires-clause-early
wires_to-requires-clause-early c =
    all_nodes c.args.store.now c.laws.ensures.numbered c.laws.ensures.linked c.args.rc.now c.tree_root-root.result c.pins_on-pins.result.now c.tree_root-root.ensures
    Early c.in_ok-trees.trees.early c.in_ok-trees.ensures.trees.early

pub wires_to-requires-clause-late : goal.wires_to-requires-clause-late
wires_to-requires-clause-late c =
    all_nodes c.args.store.now c.laws.ensures.numbered c.laws.ensures.linked c.args.rc.now c.tree_root-root.result c.pins_on-pins.result.now c.tree_root-root.ensures
    Late (late_of c.in_ok-trees.trees) c.in_ok-trees.ensures.trees.late

pub returns-in_err-trees-clause-err : goal.returns-in_err-trees-clause-err
returns-in_err-trees-clause-err c =
    handed_up c.from_residual.result c.in_err-trees.field-0.0 (IsUnfit (is_wide_net c.args.store.now c.args.net)) c.from_residual.ensures.1
    (unfit_more (is_net_origin c.args.store.now.design c.args.rc.now.net) (is_wide_net c.args.store.now c.args.net) c.in_err-trees.field-0.0
    (λ wide. wide_as c.args.store.now c.args.net c.args.rc.now c.requires.rc ∙ wide) c.in_err-trees.ensures.err)

pub returns-in_err-wires-clause-err : goal.returns-in_err-wires-clause-err
returns-in_err-wires-clause-err c =
    handed_up c.from_residual-in_err-wires.result Memory (IsUnfit (is_wide_net c.args.store.now c.args.net)) c.from_residual-in_err-wires.ensures.1 tt

pub returns-clause-found : goal.returns-clause-found
returns-clause-found c =
    tree_found c.args.store.now c.laws.ensures.numbered c.laws.ensures.linked c.args.rc.now c.tree_root-root.result c.pins_on-pins.result.now c.tree_root-root.ensures
    c.args.net c.requires.rc c.pins_on-pins.ensures.counts c.in_ok-trees.trees c.in_ok-trees.ensures.trees c.in_ok-trees.ensures.fine
    c.tree_load.result c.tree_load.ensures.early c.tree_load.ensures.late c.in_ok-wires.wires c.in_ok-wires.ensures
