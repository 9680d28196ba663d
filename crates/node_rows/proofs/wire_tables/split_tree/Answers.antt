use Rattle.std.proofs.Common.{◌≡◌, false, sym, ◌∙◌}
use Rattle.rc_tree.specs.Trees.{IsTreeOf, is_out_of_range}
use Rattle.node_rows.specs.Evaluation.{IsUnfit}
use Rattle.node_rows.specs.NetTrees.{IsSplitTree, is_wide_tree}
use Rattle.node_rows.proofs.TreeUses.{root_number, all_numbers, acyclic_is, measured_as, reached_as, small_as, out_as, tree_as}
use Rattle.node_rows.proofs.UnfitLaws.{unfit_more}
use Rattle.node_rows.proofs.ResultLaws.{ok_more, err_more}
use Rattle.node_rows.proofs.wire_tables.split_tree.Goals as goal

pub pin_name-name-requires : goal.pin_name-name-requires
pin_name-name-requires c = root_number c.args.store.now c.laws.ensures.numbered c.laws.ensures.linked c.args.rc.now c.args.root c.args.pins.now c.requires.net

pub pin_caps-requires-clause-pins : goal.pin_caps-requires-clause-pins
pin_caps-requires-clause-pins c = all_numbers c.args.store.now c.laws.ensures.numbered c.laws.ensures.linked c.args.rc.now c.args.root c.args.pins.now c.requires.net

pub tree_of-requires-clause-measured : goal.tree_of-requires-clause-measured
tree_of-requires-clause-measured c = measured_as c.args.store.now c.laws.ensures.numbered c.laws.ensures.linked c.args.rc.now c.args.root c.args.pins.now c.requires.net c.args.split c.pin_name-name.result.now c.pin_name-name.ensures c.in_ok-caps.caps c.in_ok-caps.ensures

pub tree_of-requires-clause-acyclic : goal.tree_of-requires-clause-acyclic
tree_of-requires-clause-acyclic c = acyclic_is c.args.store.now c.laws.ensures.numbered c.laws.ensures.linked c.args.rc.now c.args.root c.args.pins.now c.requires.net

pub tree_of-requires-clause-reached : goal.tree_of-requires-clause-reached
tree_of-requires-clause-reached c = reached_as c.args.store.now c.laws.ensures.numbered c.laws.ensures.linked c.args.rc.now c.args.root c.args.pins.now c.requires.net c.args.split c.pin_name-name.result.now c.pin_name-name.ensures c.in_ok-caps.caps c.in_ok-caps.ensures

pub tree_of-requires-clause-small : goal.tree_of-requires-clause-small
tree_of-requires-clause-small c = small_as c.args.store.now c.laws.ensures.numbered c.laws.ensures.linked c.args.rc.now c.args.root c.args.pins.now c.requires.net c.args.split c.pin_name-name.result.now c.pin_name-name.ensures c.in_ok-caps.caps c.in_ok-caps.ensures

pub returns-clause-tree : goal.returns-clause-tree
returns-clause-tree c =
    ok_more c.tree_of.result (IsTreeOf c.args.rc.now c.pin_name-name.result.now c.in_ok-caps.caps) (IsSplitTree c.args.store.now c.args.rc.now c.args.root c.args.pins.now c.args.split)
    (tree_as c.args.store.now c.laws.ensures.numbered c.laws.ensures.linked c.args.rc.now c.args.root c.args.pins.now c.requires.net c.args.split c.pin_name-name.result.now c.pin_name-name.ensures c.in_ok-caps.caps c.in_ok-caps.ensures) c.tree_of.ensures.tree

pub returns-clause-fine : goal.returns-clause-fine
returns-clause-fine c =
    ok_more c.tree_of.result (λ _. is_out_of_range c.args.rc.now c.pin_name-name.result.now c.in_ok-caps.caps ≡ false) (λ _. is_wide_tree c.args.store.now c.args.rc.now c.args.root c.args.pins.now c.args.split ≡ false)
    (λ _ fine. sym (out_as c.args.store.now c.laws.ensures.numbered c.laws.ensures.linked c.args.rc.now c.args.root c.args.pins.now c.requires.net c.args.split c.pin_name-name.result.now c.pin_name-name.ensures c.in_ok-caps.caps c.in_ok-caps.ensures) ∙ fine) c.tree_of.ensures.fine

pub returns-clause-err : goal.returns-clause-err
returns-clause-err c =
    err_more c.tree_of.result (IsUnfit (is_out_of_range c.args.rc.now c.pin_name-name.result.now c.in_ok-caps.caps)) (IsUnfit (is_wide_tree c.args.store.now c.args.rc.now c.args.root c.args.pins.now c.args.split))
    (λ unfit. unfit_more (is_out_of_range c.args.rc.now c.pin_name-name.result.now c.in_ok-caps.caps) (is_wide_tree c.args.store.now c.args.rc.now c.args.root c.args.pins.now c.args.split) unfit
    (λ wide. sym (out_as c.args.store.now c.laws.ensures.numbered c.laws.ensures.linked c.args.rc.now c.args.root c.args.pins.now c.requires.net c.args.split c.pin_name-name.result.now c.pin_name-name.ensures c.in_ok-caps.caps c.in_ok-caps.ensures) ∙ wide)) c.tree_of.ensures.err
