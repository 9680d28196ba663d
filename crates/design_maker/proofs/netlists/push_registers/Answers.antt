use Rattle.std.proofs.Common.{◌≤◌, ◌<◌, sym, ◌∙◌, arith}
use Rattle.design_maker.specs.Insts.{blocks_of}
use Rattle.design_maker.proofs.Steps.{registers_less, registers_none}
use Rattle.design_maker.proofs.netlists.push_registers.Goals as goal

pub loop-block-preserved : goal.loop-block-preserved
loop-block-preserved c =
    let below : c.loop-block.block < blocks_of c.args.gates = omega (arith, c.loop-block-test.true) in
    rw c.in_ok-push_last.ensures
    (registers_less c.args.lane c.args.gates (blocks_of c.args.gates) c.loop-block.block c.loop-block.out.items below ∙ c.loop-block.invariant)

pub returns : goal.returns
returns c =
    let high : blocks_of c.args.gates ≤ c.loop-block.block = omega (arith, c.loop-block-test.false) in
    sym (registers_none c.args.lane c.args.gates (blocks_of c.args.gates) c.loop-block.block c.loop-block.out.items high) ∙ c.loop-block.invariant
