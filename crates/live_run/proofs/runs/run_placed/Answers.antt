use Rattle.std.proofs.Common.{rules, ◌≡◌, ◌+◌, ◌≤◌, ◌++◌, ◌∷◌, [], length, map, sym, ap, ◌∙◌, subst, arith}
use Rattle.live_run.specs.Runs.{AtFile}
use Rattle.live_run.specs.Seating.{seat_in}
use Rattle.live_run.specs.Sessions.{AreNew}
use Rattle.live_run.proofs.BeginLaws.{desk_seat, desk_of, as_many}
use Rattle.live_run.proofs.runs.run_placed.Goals as goal

pub begin-desk-requires-clause-seat : goal.begin-desk-requires-clause-seat
begin-desk-requires-clause-seat g c =
    let parts : c.args.ready.seats.items ≡ c.pop.new.self.items ++ c.unwrap-seat.result ∷ [] = search rules in
    (desk_seat c.args.ready.board c.args.plan.now.sessions g.B.Room.about c.requires.board.0 c.requires.number c.args.ready.seats.items c.pop.new.self.items c.unwrap-seat.result
    parts c.requires.seats.0 c.requires.seats.1).0

pub begin-desk-requires-clause-file : goal.begin-desk-requires-clause-file
begin-desk-requires-clause-file g c = c.sink_of.ensures.text ∙ ap (λ (f : AtFile). f.text) c.requires.before

pub begin-desk-requires-clause-faults : goal.begin-desk-requires-clause-faults
begin-desk-requires-clause-faults g c = c.sink_of.ensures.faults ∙ ap (λ (f : AtFile). f.faults) c.requires.before

pub run_beside-ended-requires-clause-begun : goal.run_beside-ended-requires-clause-begun
run_beside-ended-requires-clause-begun g c κs within =
    let parts : c.args.ready.seats.items ≡ c.pop.new.self.items ++ c.unwrap-seat.result ∷ [] = search rules in
    subst (AreNew c.args.ready.board 1) (sym c.seated-seatings.ensures.seats)
    (desk_seat c.args.ready.board c.args.plan.now.sessions g.B.Room.about c.requires.board.0 c.requires.number c.args.ready.seats.items c.pop.new.self.items c.unwrap-seat.result
    parts c.requires.seats.0 c.requires.seats.1).1

pub close-closed-requires-clause-begun : goal.close-closed-requires-clause-begun
close-closed-requires-clause-begun g c =
    let parts : c.args.ready.seats.items ≡ c.pop.new.self.items ++ c.unwrap-seat.result ∷ [] = search rules in (
      c.args.ready.manner,
      map seat_in c.seated-seatings.result.items,
      subst (AreNew c.args.ready.board 1) (sym c.seated-seatings.ensures.seats)
          (desk_seat c.args.ready.board c.args.plan.now.sessions g.B.Room.about c.requires.board.0 c.requires.number c.args.ready.seats.items c.pop.new.self.items c.unwrap-seat.result
          parts c.requires.seats.0 c.requires.seats.1).1,
      c.run_beside-ended.ensures,
    )

pub close-closed-requires-clause-desk : goal.close-closed-requires-clause-desk
close-closed-requires-clause-desk g c =
    let many = as_many _ _ _ _ _ _ c.run_beside-ended.ensures in
    let seats : length (map seat_in c.seated-seatings.result.items) ≡ length c.pop.new.self.items = ap length c.seated-seatings.ensures.seats in
    let short : length c.pop.new.self.items ≡ c.args.plan.now.sessions = search rules in
    desk_of c.args.ready.board c.args.plan.now.sessions g.B.Room.about c.requires.board.0 c.requires.number (length c.run_beside-ended.result.items) c.requires.board.1 (many ∙ seats ∙ short)

pub close-closed-requires-clause-seats : goal.close-closed-requires-clause-seats
close-closed-requires-clause-seats g c =
    let many = as_many _ _ _ _ _ _ c.run_beside-ended.ensures in
    let seats : length (map seat_in c.seated-seatings.result.items) ≡ length c.pop.new.self.items = ap length c.seated-seatings.ensures.seats in
    let short : length c.pop.new.self.items ≡ c.args.plan.now.sessions = search rules in
    (c.requires.back.0, omega (arith, many, seats, short, c.requires.back.1))

pub close-closed-requires-clause-sessions : goal.close-closed-requires-clause-sessions
close-closed-requires-clause-sessions g c =
    let many = as_many _ _ _ _ _ _ c.run_beside-ended.ensures in
    let seats : length (map seat_in c.seated-seatings.result.items) ≡ length c.pop.new.self.items = ap length c.seated-seatings.ensures.seats in
    let short : length c.pop.new.self.items ≡ c.args.plan.now.sessions = search rules in
    (c.requires.parted.0, omega (arith, many, seats, short, c.requires.parted.1))

pub returns-clause-run : goal.returns-clause-run
returns-clause-run g c =
    let parts : c.args.ready.seats.items ≡ c.pop.new.self.items ++ c.unwrap-seat.result ∷ [] = search rules in
    c.close-closed.ensures.run c.args.ready.manner (map seat_in c.seated-seatings.result.items)
    (subst (AreNew c.args.ready.board 1) (sym c.seated-seatings.ensures.seats)
    (desk_seat c.args.ready.board c.args.plan.now.sessions g.B.Room.about c.requires.board.0 c.requires.number c.args.ready.seats.items c.pop.new.self.items c.unwrap-seat.result
    parts c.requires.seats.0 c.requires.seats.1).1)
    c.run_beside-ended.ensures

pub returns-clause-many : goal.returns-clause-many
returns-clause-many g c =
    let many = as_many _ _ _ _ _ _ c.run_beside-ended.ensures in
    let seats : length (map seat_in c.seated-seatings.result.items) ≡ length c.pop.new.self.items = ap length c.seated-seatings.ensures.seats in
    let short : length c.pop.new.self.items ≡ c.args.plan.now.sessions = search rules in
    c.close-closed.ensures.many ∙ (many ∙ seats ∙ short)
