use Rattle.std.proofs.Common.{rules, ◌≡◌, length, map, ap, ◌∙◌, sym, subst, arith}
use Rattle.std.specs.Arc.{arc_value}
use Rattle.std.specs.List.{All}
use Rattle.std.proofs.lemmas.List.{length-map}
use Rattle.version_board.specs.Callers.{IsSeatOf}
use Rattle.session_engine.specs.Looking.{meant}
use Rattle.session_engine.specs.Versions.{IsVersion}
use Rattle.shell_session.specs.declared.sessions.Ended.{Ended}
use Rattle.shell_session.specs.Each.{AreTold}
use Rattle.shell_session.proofs.WholeLaws.{as_many, seats_fit, closed_whole}
use Rattle.shell_session.proofs.sessions.close.Goals as goal

pub taken_apart-requires-clause-seats : goal.taken_apart-requires-clause-seats
taken_apart-requires-clause-seats c =
    let many = as_many c.requires.begun.0 c.args.scripts.now c.args.ended.items c.requires.begun.2 in
    (c.requires.seats.0, omega (arith, many, c.requires.seats.1))

pub taken_apart-requires-clause-told : goal.taken_apart-requires-clause-told
taken_apart-requires-clause-told c =
    let many = as_many c.requires.begun.0 c.args.scripts.now c.args.ended.items c.requires.begun.2 in
    (c.requires.told.0, omega (arith, many, c.requires.told.1))

pub close-last-requires-clause-all : goal.close-last-requires-clause-all
close-last-requires-clause-all c =
    let many = as_many c.requires.begun.0 c.args.scripts.now c.args.ended.items c.requires.begun.2 in
    let are : c.in-Ok.seats.items ≡ map (λ (e : Ended). e.seat) c.args.ended.items = search rules in
    ap length are ∙ length-map c.args.ended.items (λ (e : Ended). e.seat) ∙ many ∙ c.requires.count

pub close-last-requires-clause-seats : goal.close-last-requires-clause-seats
close-last-requires-clause-seats c =
    let are : c.in-Ok.seats.items ≡ map (λ (e : Ended). e.seat) c.args.ended.items = search rules in
    subst (All (IsSeatOf meant c.args.board)) (sym are)
    (seats_fit c.args.board 1 c.requires.begun.0 c.args.scripts.now c.args.ended.items c.requires.begun.1 c.requires.begun.2)

pub returns-in-Ok-clause-whole : goal.returns-in-Ok-clause-whole
returns-in-Ok-clause-whole c =
    let last = arc_value c.close-last.result in
    let are : c.in-Ok.seats.items ≡ map (λ (e : Ended). e.seat) c.args.ended.items = search rules in
    let told : AreTold c.args.ended.items c.from_vec.result = search rules in
    let is : IsVersion last = subst IsVersion c.deref.ensures c.laws.ensures in
    closed_whole c.args.board c.requires.begun.0 c.args.scripts.now c.args.ended.items c.in-Ok.seats.items c.from_vec.result last
    c.requires.begun.1 c.requires.begun.2 are told is c.close-last.ensures.value.1 c.close-last.ensures.seats c.close-last.ensures.entries
