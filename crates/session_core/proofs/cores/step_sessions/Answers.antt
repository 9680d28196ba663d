use Rattle.std.proofs.Common.{◌≡◌, ◌+◌, Some, length, slice_index_or, sym, ap, arith}
use Rattle.std.specs.List.{slice_get}
use Rattle.std.proofs.lemmas.Option.{slice_get-get_or}
use Rattle.session_core.specs.Machine.{state}
use Rattle.session_core.proofs.Within.{next_low}
use Rattle.session_core.proofs.Runs.{stepped}
use Rattle.session_core.proofs.cores.step_sessions.Goals as goal

pub step_session-requires-clause-within : goal.step_session-requires-clause-within
step_session-requires-clause-within c =
    let script : slice_get c.args.scripts.now c.in-Some.place ≡ Some c.in-Some-get.script.now = sym c.in-Some-get.ensures.value in
    next_low c.args.scripts.now c.args.sessions.now c.in-Some.place c.in-Some-get.script.now _ c.requires.runnable c.requires.within script
    (slice_get-get_or c.args.sessions.now c.in-Some.place c.index-sessions-place.result (omega (arith, c.if-sessions-place.false)))

pub returns-clause-ok : goal.returns-clause-ok
returns-clause-ok c =
    let script : slice_get c.args.scripts.now c.in-Some.place ≡ Some c.in-Some-get.script.now = sym c.in-Some-get.ensures.value in
    stepped c.step_session.result (state c.args.first c.args.entries.now c.args.scripts.now c.args.sessions.now) c.args.event c.in-Some.place c.in-Some-get.script.now
    (slice_index_or c.args.sessions.now c.in-Some.place c.index-sessions-place.result) c.step_session.new.session (c.args.first + length c.as_slice.result.now) c.step_session.new.entries
    c.in-Some.ensures script (slice_get-get_or c.args.sessions.now c.in-Some.place c.index-sessions-place.result (omega (arith, c.if-sessions-place.false)))
    (ap (λ entries. c.args.first + length entries) c.as_slice.ensures) c.step_session.ensures.session_ok c.step_session.ensures.entries_ok
