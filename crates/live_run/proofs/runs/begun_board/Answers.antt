use Rattle.std.proofs.Common.{◌<◌, subst}
use Rattle.live_run.proofs.PoppedLaws.{all_new}
use Rattle.live_run.proofs.runs.begun_board.Goals as goal

pub returns-in-Ok-clause-seats : goal.returns-in-Ok-clause-seats
returns-in-Ok-clause-seats c =
    let begun = c.in-Ok.begun in
    let ensures = c.in-Ok.ensures in
    (ensures.seats.0, all_new begun.board 1 begun.seats.items ensures.seats.1 (λ k short. ensures.new k (subst (λ n. k < n) ensures.seats.0 short)))
