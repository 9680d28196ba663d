use Rattle.std.proofs.Common.{◌≤◌, ◌<◌, sym, ◌∙◌, arith}
use Rattle.design_maker.proofs.Steps.{drawn_less, drawn_none, gates_less, gates_none}
use Rattle.design_maker.proofs.netlists.push_gates.Goals as goal

pub loop-before-preserved : goal.loop-before-preserved
loop-before-preserved c =
    let below : c.loop-before.before < c.args.gates = omega (arith, c.loop-before-test.true) in
    record {
      last = rw c.draw-x.ensures (drawn_less c.loop-before.before c.args.gates c.loop-before.x below ∙ c.loop-before.invariant.last);
      text = rw (c.in_ok-push_gate.ensures, c.draw-x.ensures)
          (gates_less c.args.lane c.args.gates c.loop-before.before c.loop-before.x c.loop-before.out.items below ∙ c.loop-before.invariant.text);
    }

pub returns-clause-last : goal.returns-clause-last
returns-clause-last c =
    let high : c.args.gates ≤ c.loop-before.before = omega (arith, c.loop-before-test.false) in
    sym (drawn_none c.loop-before.before c.args.gates c.loop-before.x high) ∙ c.loop-before.invariant.last

pub returns-clause-text : goal.returns-clause-text
returns-clause-text c =
    let high : c.args.gates ≤ c.loop-before.before = omega (arith, c.loop-before-test.false) in
    sym (gates_none c.args.lane c.args.gates c.loop-before.before c.loop-before.x c.loop-before.out.items high) ∙ c.loop-before.invariant.text
