use Rattle.std.proofs.Common.{ap, ◌∙◌, List}
use Rattle.timing_defs.specs.declared.edits.Edit.{Edit}
use Rattle.timing_defs.specs.Edits.{edited}
use Rattle.timing_defs.specs.Touches.{touched_list}
use Rattle.netlist_store.proofs.EditEnds.{numbers_kept}
use Rattle.netlist_store.proofs.EcoSteps.{eco_edit, eco_more, eco_end, touch_more, touch_end, end_insts, end_nets}
use Rattle.netlist_store.proofs.stores.Store.applied.Goals as goal

pub after-requires : goal.after-requires
after-requires c = record {
  edit =
      eco_edit c.args.eco.now c.as_slice-edits.result.now c.loop-edit.edit-index c.edit-item.result c.requires.eco c.as_slice-edits.ensures
      c.loop-edit-test.true c.edit-item.is;
  follows = c.loop-edit.invariant.follows;
}

pub loop-edit-preserved : goal.loop-edit-preserved
loop-edit-preserved c = record {
  edited =
      eco_more c.as_slice-edits.result.now c.loop-edit.edit-index c.loop-edit.store.design (edited c.args.self.now.design c.args.eco.now) c.loop-edit.invariant.edited
      c.edit-item.result c.loop-edit-test.true c.edit-item.is c.in_ok-store.store.design c.in_ok-store.ensures.edited;
  touched =
      touch_more c.as_slice-edits.result.now c.loop-edit.edit-index c.args.self.now.design c.loop-edit.store.design c.loop-edit.touched c.loop-edit.invariant.touched
      c.edit-item.result c.loop-edit-test.true c.edit-item.is c.in_ok-store.store.design c.after.new.touched c.in_ok-store.ensures.touched;
  follows = c.in_ok-store.ensures.follows;
}

pub returns-clause-design : goal.returns-clause-design
returns-clause-design c =
    eco_end c.as_slice-edits.result.now c.loop-edit.edit-index c.loop-edit.store.design (edited c.args.self.now.design c.args.eco.now) c.loop-edit.invariant.edited
    c.loop-edit-test.false

pub returns-clause-insts : goal.returns-clause-insts
returns-clause-insts c =
    end_insts c.loop-edit.touched c.loop-edit.store.design (touched_list c.args.self.now.design c.as_slice-edits.result.now)
    (touch_end c.as_slice-edits.result.now c.loop-edit.edit-index c.args.self.now.design c.loop-edit.store.design c.loop-edit.touched c.loop-edit.invariant.touched c.loop-edit-test.false)
    ∙ ap (λ (xs : List Edit). (touched_list c.args.self.now.design xs).insts) c.as_slice-edits.ensures

pub returns-clause-nets : goal.returns-clause-nets
returns-clause-nets c =
    end_nets c.loop-edit.touched c.loop-edit.store.design (touched_list c.args.self.now.design c.as_slice-edits.result.now)
    (touch_end c.as_slice-edits.result.now c.loop-edit.edit-index c.args.self.now.design c.loop-edit.store.design c.loop-edit.touched c.loop-edit.invariant.touched c.loop-edit-test.false)
    ∙ ap (λ (xs : List Edit). (touched_list c.args.self.now.design xs).nets) c.as_slice-edits.ensures

pub returns-clause-numbers : goal.returns-clause-numbers
returns-clause-numbers c = numbers_kept c.args.self.now c.loop-edit.store c.loop-edit.invariant.follows
