use Rattle.std.proofs.Common.{◌≡◌, ◌++◌, ◌-◌}
use Rattle.design_maker.specs.Insts.{registers_from, blocks_of}
use Rattle.design_maker.specs.Written.{insts_text}
use Rattle.design_maker.proofs.netlists.push_registers.Given as goal

abbrev pub invariant-loop-block : goal.invariant-loop-block
invariant-loop-block l =
    l.out.items ++ insts_text (registers_from l.lane l.gates l.block (blocks_of l.gates - l.block))
    ≡ l.initial.out.items ++ insts_text (registers_from l.lane l.gates 0 (blocks_of l.gates))
