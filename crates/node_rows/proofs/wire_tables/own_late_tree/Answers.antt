use Rattle.std.proofs.Common.{List, sym, ap, subst, ◌∙◌}
use Rattle.timing_defs.specs.declared.kinds.Split.TheVariants.{Late}
use Rattle.timing_defs.specs.declared.rows.PinCap.{PinCap}
use Rattle.rc_tree.specs.Trees.{IsTreeOf, is_out_of_range}
use Rattle.node_rows.specs.Evaluation.{IsUnfit}
use Rattle.node_rows.specs.NetTrees.{is_wide_tree, pin_word}
use Rattle.node_rows.proofs.ResultLaws.{handed_up}
use Rattle.node_rows.proofs.TreePins.{caps_alike}
use Rattle.node_rows.proofs.TreeUses.{all_numbers}
use Rattle.node_rows.proofs.wire_tables.own_late_tree.Goals as goal

pub have_one_cap-requires-clause-pins : goal.have_one_cap-requires-clause-pins
have_one_cap-requires-clause-pins c = all_numbers c.args.store.now c.laws.ensures.numbered c.laws.ensures.linked c.args.rc.now c.args.root c.args.pins.now c.requires.net

pub returns-then-have_one_cap-clause-tree : goal.returns-then-have_one_cap-clause-tree
returns-then-have_one_cap-clause-tree c =
    λ early is. subst (λ (caps : List PinCap). IsTreeOf c.args.rc.now (pin_word c.args.store.now c.args.root) caps early)
    (caps_alike c.args.store.now c.args.pins.now (sym c.have_one_cap.ensures ∙ c.if-have_one_cap.true)) is

pub returns-then-have_one_cap-clause-fine : goal.returns-then-have_one_cap-clause-fine
returns-then-have_one_cap-clause-fine c =
    λ fine. ap (is_out_of_range c.args.rc.now (pin_word c.args.store.now c.args.root))
    (sym (caps_alike c.args.store.now c.args.pins.now (sym c.have_one_cap.ensures ∙ c.if-have_one_cap.true))) ∙ fine

pub returns-in_err-late-clause-err : goal.returns-in_err-late-clause-err
returns-in_err-late-clause-err c =
    handed_up c.from_residual.result c.in_err-late.field-0.0 (IsUnfit (is_wide_tree c.args.store.now c.args.rc.now c.args.root c.args.pins.now Late)) c.from_residual.ensures.1 c.in_err-late.ensures.err

pub returns-clause-tree : goal.returns-clause-tree
returns-clause-tree c = λ early is. c.in_ok-late.ensures.tree

pub returns-clause-fine : goal.returns-clause-fine
returns-clause-fine c = λ fine. c.in_ok-late.ensures.fine
