use Rattle.std.proofs.Common.{rules, ◌≡◌, sym, ap, subst}
use Rattle.live_session.specs.Talks.{AtDoor, at_door}
use Rattle.live_run.specs.Sessions.{HandsBack}
use Rattle.live_run.proofs.PoppedLaws.{seat_popped, each_popped}
use Rattle.live_run.proofs.sessions.+run_each.Goals as goal

pub spawn_with-started-requires-clause-runs : goal.spawn_with-started-requires-clause-runs
spawn_with-started-requires-clause-runs g t c κs within =
    let p = seat_popped c.args.shared.now.board.now c.args.seatings.items c.pop.new.self.items _ c.in-Some.ensures.items c.requires.begun in
    let n = p.1 in
    ((p.3, p.2, search rules, c.requires.hall, c.requires.denies), (search rules, search rules, search rules, search rules, search rules, search rules, search rules))

pub run_each-all-requires-clause-begun : goal.run_each-all-requires-clause-begun
run_each-all-requires-clause-begun g t c κs within =
    (seat_popped c.args.shared.now.board.now c.args.seatings.items c.pop.new.self.items _ c.in-Some.ensures.items c.requires.begun).0

pub run_each-all-requires-in-Err-clause-begun : goal.run_each-all-requires-in-Err-clause-begun
run_each-all-requires-in-Err-clause-begun g t c κs within =
    (seat_popped c.args.shared.now.board.now c.args.seatings.items c.pop.new.self.items _ c.in-Some.ensures.items c.requires.begun).0

pub spawn_with-requires-after_bounds : goal.spawn_with-requires-after_bounds
spawn_with-requires-after_bounds g t c κs within =
    let p = seat_popped c.args.shared.now.board.now c.args.seatings.items c.pop.new.self.items _ c.in-Some.ensures.items c.requires.begun in
    let n = p.1 in
    rw c.in-Err.ensures.err (p.3, p.2, search rules, c.requires.hall, c.requires.denies)

pub spawn_with-started-requires-clause-keeps : goal.spawn_with-started-requires-clause-keeps
spawn_with-started-requires-clause-keeps g t c κs within = λ r back.
    let told : g.row.D.Denot → AtDoor = λ door. at_door (g.D.Door.left door) (g.D.Door.trace door) (g.D.Door.faults door) in
    subst (λ m. HandsBack told g.B.LiveRoom.lines g.B.LiveRoom.denies m c.of.result.value r) (sym c.of-2.ensures)
    (subst (λ s. HandsBack told g.B.LiveRoom.lines g.B.LiveRoom.denies c.args.manner.now s r) (sym c.of.ensures) back)

pub returns-in-Ok-clause-each : goal.returns-in-Ok-clause-each
returns-in-Ok-clause-each g t c =
    let told : g.row.D.Denot → AtDoor = λ door. at_door (g.D.Door.left door) (g.D.Door.trace door) (g.D.Door.faults door) in
    let promise = c.in-Ok.handle.promise in
    let manner : promise.manner.value ≡ c.args.manner.now = search rules in
    let seat : promise.seat.value ≡ c.in-Some.field-0.seat = search rules in
    each_popped _ _ _ c.args.manner.now c.args.seatings.items c.pop.new.self.items _ c.run_each-all.result.items c.push_reserved.new.self.items
    c.join.result c.in-Some.ensures.items c.push_reserved.ensures.items c.run_each-all.ensures.each
    (subst (λ m. HandsBack told g.B.LiveRoom.lines g.B.LiveRoom.denies m c.in-Some.field-0.seat c.join.result) manner
    (subst (λ s. HandsBack told g.B.LiveRoom.lines g.B.LiveRoom.denies promise.manner.value s c.join.result) seat c.join.ensures))

pub returns-in-Err-clause-each : goal.returns-in-Err-clause-each
returns-in-Err-clause-each g t c =
    let told : g.row.D.Denot → AtDoor = λ door. at_door (g.D.Door.left door) (g.D.Door.trace door) (g.D.Door.faults door) in
    let refused = c.in-Err.refused.value in
    let manner : refused.3.now ≡ c.args.manner.now = ap (λ v. v.3.now) c.in-Err.ensures.err in
    let seat : refused.5 ≡ c.in-Some.field-0.seat = ap (λ v. v.5) c.in-Err.ensures.err in
    each_popped _ _ _ c.args.manner.now c.args.seatings.items c.pop.new.self.items _ c.run_each-all-in-Err.result.items c.push_reserved-in-Err.new.self.items
    c.spawn_with.result c.in-Some.ensures.items c.push_reserved-in-Err.ensures.items c.run_each-all-in-Err.ensures.each
    (subst (λ m. HandsBack told g.B.LiveRoom.lines g.B.LiveRoom.denies m c.in-Some.field-0.seat c.spawn_with.result) manner
    (subst (λ s. HandsBack told g.B.LiveRoom.lines g.B.LiveRoom.denies refused.3.now s c.spawn_with.result) seat c.spawn_with.ensures))
