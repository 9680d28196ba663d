use Rattle.std.proofs.Common.{◌≡◌, ◌++◌, ◌-◌}
use Rattle.design_maker.specs.Insts.{lanes_from, behind_lanes}
use Rattle.design_maker.specs.Written.{insts_text}
use Rattle.design_maker.proofs.netlists.push_lanes.Given as goal

abbrev pub invariant-loop-lane : goal.invariant-loop-lane
invariant-loop-lane l = record {
  last : behind_lanes (4 - l.lane) l.gates l.x ≡ behind_lanes 4 l.gates l.start;
  text : l.out.items ++ insts_text (lanes_from l.lane (4 - l.lane) l.gates l.x)
      ≡ l.initial.out.items ++ insts_text (lanes_from 0 4 l.gates l.start);
}
