use Rattle.std.proofs.Common.{◌≡◌, ◌++◌, ◌-◌}
use Rattle.design_maker.specs.Draws.{drawn_on}
use Rattle.design_maker.specs.Insts.{gates_from}
use Rattle.design_maker.specs.Written.{insts_text}
use Rattle.design_maker.proofs.netlists.push_gates.Given as goal

abbrev pub invariant-loop-before : goal.invariant-loop-before
invariant-loop-before l = record {
  last : drawn_on (l.gates - l.before) l.x ≡ drawn_on l.gates l.start;
  text : l.out.items ++ insts_text (gates_from l.lane l.before (l.gates - l.before) l.x)
      ≡ l.initial.out.items ++ insts_text (gates_from l.lane 0 l.gates l.start);
}
