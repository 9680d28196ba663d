use Rattle.std.proofs.Common.{rules, ◌≡◌, ◌++◌, ◌∷◌, [], map, length, ap, ◌∙◌, subst}
use Rattle.std.proofs.lemmas.List.{length-map}
use Rattle.std.specs.Arc.{arc_value}
use Rattle.session_engine.specs.Versions.{IsVersion}
use Rattle.live_run.specs.Closing.{seat_left, parted_left}
use Rattle.live_run.proofs.EndLaws.{all_fit, all_count, closed_run}
use Rattle.live_run.proofs.closing.close.Goals as goal

pub close-last-requires-clause-all : goal.close-last-requires-clause-all
close-last-requires-clause-all g c =
    let are : c.push_reserved.new.self.items ≡ map seat_left c.args.ended.items ++ c.into_parts-seat.result.seat ∷ [] = search rules in
    all_count c.args.board g.B.Room.about c.into_parts-seat.result.seat c.args.ended.items c.push_reserved.new.self.items c.requires.desk are

pub close-last-requires-clause-seats : goal.close-last-requires-clause-seats
close-last-requires-clause-seats g c =
    let are : c.push_reserved.new.self.items ≡ map seat_left c.args.ended.items ++ c.into_parts-seat.result.seat ∷ [] = search rules in
    let desk = c.into_parts-seat.ensures.laws in
    all_fit _ _ _ c.requires.begun.0 c.args.board g.B.Room.about c.into_parts-seat.result.seat c.requires.begun.1 c.args.ended.items c.push_reserved.new.self.items
    c.requires.begun.2 c.requires.begun.3 c.requires.desk.board (rw c.into_parts-seat.ensures.seat desk.sits) are

pub returns-clause-run : goal.returns-clause-run
returns-clause-run g c manner begun new back =
    let last = arc_value c.close-last.result in
    let seats = c.push_reserved.new.self.items in
    let are : seats ≡ map seat_left c.args.ended.items ++ c.into_parts-seat.result.seat ∷ [] = search rules in
    let parted : c.taken_apart-seats.result.sessions.items ≡ map parted_left c.args.ended.items = search rules in
    let is : IsVersion last = subst IsVersion c.deref.ensures c.laws.ensures in
    rw parted
    (closed_run _ _ _ manner _ _ g.B.Room.about c.args.board c.taken_apart-seats.new.desk begun c.args.ended.items last c.into_parts-seat.result.file
    c.settle-journal.result.journal c.settle-journal.result.kept seats c.into_parts-seat.result.seat c.args.derates.now c.into_parts-seat.result.kept c.into_parts-seat.result.sound
    new back c.requires.desk c.into_parts-seat.ensures.laws c.taken_apart-seats.ensures.confirmed c.into_parts-seat.ensures.file.0 c.into_parts-seat.ensures.file.1 c.into_parts-seat.ensures.seat
    c.into_parts-seat.ensures.kept.0 c.into_parts-seat.ensures.kept.1 c.requires.derates are is c.close-last.ensures.value.1 c.close-last.ensures.value.0
    c.close-last.ensures.seats c.close-last.ensures.entries (search rules))

pub returns-clause-many : goal.returns-clause-many
returns-clause-many g c =
    let parted : c.taken_apart-seats.result.sessions.items ≡ map parted_left c.args.ended.items = search rules in
    ap length parted ∙ length-map c.args.ended.items parted_left
