use Rattle.std.proofs.Common.{◌≡◌, ℕ, ◌+◌, Some, None, sym, ap, subst, ◌∙◌}
use Rattle.std.specs.Prelude.{option_map}
use Rattle.std.specs.Arc.{arc_value}
use Rattle.timing_defs.specs.declared.design.Design.{Design}
use Rattle.timing_defs.specs.declared.edits.Entry.{Entry}
use Rattle.version_board.specs.Callers.{Sitting}
use Rattle.seated_session.specs.Seated.{Seated, RanAt}
use Rattle.seated_session.proofs.Runs.{ran_on, ran_out}
use Rattle.seated_session.proofs.seated.SeatedSession.answer_over.Goals as goal

pub returns-in-Ok-clause-runs : goal.returns-in-Ok-clause-runs
returns-in-Ok-clause-runs g c =
    let same = c.in-Ok.ensures.same in
    let is_seat : c.args.self.now.seat ≡ c.self.inside.seat = sym (ap (λ (s : Seated). s.seat) c.self.view_is) in
    let is_answered : c.args.self.now.answered ≡ c.self.inside.answered = sym (ap (λ (s : Seated). s.answered) c.self.view_is) in λ before above ran.
    ran_on c.self.inside.seat.view c.answer_command.new.seat.view same.1 same.2 same.3 c.self.inside.who (arc_value c.args.held) c.self.inside.answered c.args.place
    c.args.command.now (arc_value c.in-Ok.answered.held) c.in-Ok.answered.row c.self.invariant.1 (c.requires.place ∙ ap (λ (n : ℕ). n + 1) is_answered) c.in-Ok.ensures.run before above
    (subst (λ (n : ℕ). RanAt c.self.inside.seat.view (Some (arc_value c.args.held)) n before above) is_answered
    (subst (λ (x : Sitting Entry Design). RanAt x.view (Some (arc_value c.args.held)) c.args.self.now.answered before above) is_seat ran))

pub returns-in-Err-clause-runs : goal.returns-in-Err-clause-runs
returns-in-Err-clause-runs g c =
    let same = c.in-Err.ensures.same in
    let is_seat : c.args.self.now.seat ≡ c.self.inside.seat = sym (ap (λ (s : Seated). s.seat) c.self.view_is) in
    let is_none : option_map arc_value c.self.inside.held ≡ None = ap (λ (s : Seated). s.held) c.self.view_is ∙ c.requires.given in λ before above ran.
    ran_out c.self.inside.seat.view c.answer_command.new.seat.view same.1 same.2 same.3 (arc_value c.args.held) c.args.self.now.answered
    (option_map arc_value c.self.inside.held) c.self.inside.answered is_none c.in-Err.ensures.looked before above
    (subst (λ (x : Sitting Entry Design). RanAt x.view (Some (arc_value c.args.held)) c.args.self.now.answered before above) is_seat ran)
