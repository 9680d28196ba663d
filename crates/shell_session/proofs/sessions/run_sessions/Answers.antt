use Rattle.std.proofs.Common.{◌<◌, subst}
use Rattle.shell_session.proofs.EachLaws.{all_new}
use Rattle.shell_session.proofs.sessions.run_sessions.Goals as goal

pub run_begun-requires-clause-begun : goal.run_begun-requires-clause-begun
run_begun-requires-clause-begun g c κs within =
    let begun = c.in-Ok-begin.begun in
    let ensures = c.in-Ok-begin.ensures in
    all_new begun.board 1 begun.seats.items ensures.seats.1 (λ k short. ensures.new k (subst (λ n. k < n) ensures.seats.0 short))
