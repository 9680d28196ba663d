use Rattle.std.proofs.Common.{◌≡◌, ◌++◌, ◌-◌}
use Rattle.design_maker.specs.Draws.{drawn_on}
use Rattle.design_maker.specs.Sessions.{commands_from}
use Rattle.design_maker.specs.Written.{commands_text}
use Rattle.design_maker.proofs.sessions.push_script.Given as goal

abbrev pub invariant-loop-edit : goal.invariant-loop-edit
invariant-loop-edit l = record {
  last : drawn_on (l.edits - l.edit) l.x ≡ drawn_on l.edits l.start;
  text : l.out.items ++ commands_text (commands_from l.lane l.gates (l.edits - l.edit) l.x)
      ≡ l.initial.out.items ++ commands_text (commands_from l.lane l.gates l.edits l.start);
}
