use Rattle.session_core.specs.Machine.{State, state}
use Rattle.session_core.specs.Law.{IsReached}
use Rattle.session_core.specs.Cores.{state_of}
use Rattle.session_core.proofs.Within.{Kept, kept_after}
use Rattle.session_core.proofs.Runs.{either, lawful_reached, reached_after}
use Rattle.session_core.proofs.cores.Core.step.Goals as goal

pub invariant_of-self : goal.invariant_of-self
invariant_of-self c =
    let core = c.args.self.now in
    let after : State = state core.first c.step_lists.new.entries core.scripts c.step_lists.new.sessions in
    let before : Kept (state_of core) = record { paired = core.paired; within = core.within } in
    let kept = either c.step_lists.result (state_of core) after c.args.event Kept c.step_lists.ensures.ok c.step_lists.ensures.err before (kept_after (state_of core) c.args.event before) in
    record { low = core.low; several = core.several; runnable = core.runnable; paired = kept.paired; within = kept.within }

pub returns-clause-reached : goal.returns-clause-reached
returns-clause-reached c reached =
    let core = c.args.self.now in
    let after : State = state core.first c.step_lists.new.entries core.scripts c.step_lists.new.sessions in
    either c.step_lists.result (state_of core) after c.args.event IsReached c.step_lists.ensures.ok c.step_lists.ensures.err reached (reached_after (state_of core) c.args.event reached)

pub returns-clause-law : goal.returns-clause-law
returns-clause-law c reached =
    let core = c.args.self.now in
    let after : State = state core.first c.step_lists.new.entries core.scripts c.step_lists.new.sessions in
    lawful_reached after core.runnable
    (either c.step_lists.result (state_of core) after c.args.event IsReached c.step_lists.ensures.ok c.step_lists.ensures.err reached (reached_after (state_of core) c.args.event reached))
