use Rattle.std.proofs.Common.{◌≡◌, map, take}
use Rattle.session_core.specs.Machine.{unstarted}
use Rattle.session_core.proofs.cores.unstarted_all.Given as goal

abbrev pub invariant-loop-script : goal.invariant-loop-script
invariant-loop-script l = l.sessions ≡ map (λ _. unstarted) (take l._script-index l.scripts)
