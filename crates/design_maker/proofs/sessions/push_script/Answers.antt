use Rattle.std.proofs.Common.{◌≤◌, ◌<◌, sym, ◌∙◌, arith}
use Rattle.design_maker.proofs.Steps.{drawn_less, drawn_none, edits_less, edits_none}
use Rattle.design_maker.proofs.sessions.push_script.Goals as goal

pub loop-edit-preserved : goal.loop-edit-preserved
loop-edit-preserved c =
    let below : c.loop-edit.edit < c.args.edits = omega (arith, c.loop-edit-test.true) in
    record {
      last = rw c.draw-x.ensures (drawn_less c.loop-edit.edit c.args.edits c.loop-edit.x below ∙ c.loop-edit.invariant.last);
      text = rw (c.in_ok-push.ensures, c.in_ok-push_resize.ensures, c.draw-x.ensures)
          (edits_less c.args.lane c.args.gates c.args.edits c.loop-edit.edit c.loop-edit.x c.loop-edit.out.items below ∙ c.loop-edit.invariant.text);
    }

pub returns-clause-last : goal.returns-clause-last
returns-clause-last c =
    let high : c.args.edits ≤ c.loop-edit.edit = omega (arith, c.loop-edit-test.false) in
    sym (drawn_none c.loop-edit.edit c.args.edits c.loop-edit.x high) ∙ c.loop-edit.invariant.last

pub returns-clause-text : goal.returns-clause-text
returns-clause-text c =
    let high : c.args.edits ≤ c.loop-edit.edit = omega (arith, c.loop-edit-test.false) in
    sym (edits_none c.args.lane c.args.gates c.args.edits c.loop-edit.edit c.loop-edit.x c.loop-edit.out.items high) ∙ c.loop-edit.invariant.text
