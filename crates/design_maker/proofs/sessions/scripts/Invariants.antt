use Rattle.std.proofs.Common.{◌≡◌, ◌++◌, ◌-◌, map}
use Rattle.timing_defs.specs.declared.scripts.Script.{Script}
use Rattle.design_maker.specs.Sessions.{scripts_from}
use Rattle.design_maker.specs.Written.{commands_text}
use Rattle.design_maker.proofs.sessions.scripts.Given as goal

abbrev pub invariant-loop-lane : goal.invariant-loop-lane
invariant-loop-lane l =
    l.all ++ map (λ (script : Script). commands_text script.commands) (scripts_from l.lane (4 - l.lane) l.gates l.edits l.x)
    ≡ map (λ (script : Script). commands_text script.commands) (scripts_from 0 4 l.gates l.edits l.start)
