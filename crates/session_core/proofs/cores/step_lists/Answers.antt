use Rattle.std.proofs.Common.{rules, ◌≡◌, sym, subst}
use Rattle.session_core.specs.Machine.{AreWithin}
use Rattle.session_core.proofs.cores.step_lists.Goals as goal

pub step_sessions-stepped-requires-clause-within : goal.step_sessions-stepped-requires-clause-within
step_sessions-stepped-requires-clause-within c =
    let sessions : c.as_mut_slice.result.now ≡ c.args.sessions.now = search rules in
    subst (AreWithin c.args.scripts.now) (sym sessions) c.requires.within
