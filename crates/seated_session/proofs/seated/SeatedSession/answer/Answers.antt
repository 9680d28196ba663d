use Rattle.std.proofs.Common.{◌≡◌, length, Some, sym, ap, arith}
use Rattle.std.specs.Arc.{arc_value}
use Rattle.live_session.specs.Turns.{Remains}
use Rattle.seated_session.specs.Seated.{Seated, RanAt, HasAnswered}
use Rattle.seated_session.proofs.Runs.{ran_still, taken_is, runs_on}
use Rattle.seated_session.proofs.seated.SeatedSession.answer.Goals as goal

pub returns-then-self-clause-runs : goal.returns-then-self-clause-runs
returns-then-self-clause-runs g c =
    let held = taken_is arc_value c.self.inside.held c.take.result c.in-Some.held c.args.self.now.held (sym (ap (λ (s : Seated). s.held) c.self.view_is)) c.take.ensures.value c.in-Some.is in
    let stays : Remains (HasAnswered c.args.self.now) (RanAt c.self.inside.seat.view (Some (arc_value c.in-Some.held)) c.self.inside.answered) =
    ran_still c.args.self.now c.self.inside.seat (Some (arc_value c.in-Some.held)) c.self.inside.answered
    (sym (ap (λ (s : Seated). s.seat) c.self.view_is)) held (sym (ap (λ (s : Seated). s.answered) c.self.view_is)) in (
      stays,
      (λ before above ran.
          let count : c.self.inside.answered ≡ length before = (stays before above ran).1 in
          let full = c.if-self.true in
          omega (arith, count, full)),
    )

pub returns-else-self-clause-runs : goal.returns-else-self-clause-runs
returns-else-self-clause-runs g c =
    let held = taken_is arc_value c.self.inside.held c.take.result c.in-Some.held c.args.self.now.held (sym (ap (λ (s : Seated). s.held) c.self.view_is)) c.take.ensures.value c.in-Some.is in
    runs_on (HasAnswered c.args.self.now) (RanAt c.self.inside.seat.view (Some (arc_value c.in-Some.held)) c.self.inside.answered) (HasAnswered c.answer_over.new.self)
    c.args.command.now c.answer_over.result
    (ran_still c.args.self.now c.self.inside.seat (Some (arc_value c.in-Some.held)) c.self.inside.answered
    (sym (ap (λ (s : Seated). s.seat) c.self.view_is)) held (sym (ap (λ (s : Seated). s.answered) c.self.view_is)))
    c.answer_over.ensures.runs
