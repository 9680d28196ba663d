use Rattle.std.proofs.Common.{rules, ℕ, ◌≡◌, ◌<◌, length, subst}
use denote.Param.Send.{IsSync, sendable}
use Rattle.std.specs.Prelude.{get_or}
use Rattle.shell_session.specs.Each.{HandsBack, AreNew}
use Rattle.shell_session.proofs.EachLaws.{new_popped, each_popped}
use Rattle.shell_session.proofs.Sent.{ended_send, script_sync, board_sync, seat_send}
use Rattle.std.proofs.Crossing.{crosses}
use Rattle.shell_session.proofs.sessions.+run_each.Goals as goal

pub spawn_with-started-requires-send-T : goal.spawn_with-started-requires-send-T
spawn_with-started-requires-send-T g t c κs within =
    search (ended_send, sendable) depth 20

pub spawn_with-started-requires-send-F : goal.spawn_with-started-requires-send-F
spawn_with-started-requires-send-F g t c κs within =
    let h : IsSync (denote.Param.param 1 g.row.H) = c.requires-raw.1.1.1.1.0 in
    let k : IsSync (denote.Param.param 2 g.row.G) = c.requires-raw.1.1.1.1.1.0 in
    let a = board_sync in let b = seat_send in let d = script_sync in
    let c : ℕ = 0 in let within : ℕ = 0 in let t : ℕ = 0 in
    search (crosses, sendable) depth 64 fits 20000

pub spawn_with-started-requires-clause-runs : goal.spawn_with-started-requires-clause-runs
spawn_with-started-requires-clause-runs g t c κs within =
    let p = new_popped c.args.board.now 1 c.pop.new.self.items c.in-Some.seat (subst (AreNew c.args.board.now 1) c.in-Some.ensures.items c.requires.begun) in
    ((p.2, search rules, search rules, c.requires.some, c.requires.most), (search rules, search rules))

pub run_each-all-requires-clause-begun : goal.run_each-all-requires-clause-begun
run_each-all-requires-clause-begun g t c κs within =
    (new_popped c.args.board.now 1 c.pop.new.self.items c.in-Some.seat (subst (AreNew c.args.board.now 1) c.in-Some.ensures.items c.requires.begun)).0

pub run_each-all-requires-in-Err-clause-begun : goal.run_each-all-requires-in-Err-clause-begun
run_each-all-requires-in-Err-clause-begun g t c κs within =
    (new_popped c.args.board.now 1 c.pop.new.self.items c.in-Some.seat (subst (AreNew c.args.board.now 1) c.in-Some.ensures.items c.requires.begun)).0

pub spawn_with-requires-after_bounds : goal.spawn_with-requires-after_bounds
spawn_with-requires-after_bounds g t c κs within =
    let p = new_popped c.args.board.now 1 c.pop.new.self.items c.in-Some.seat (subst (AreNew c.args.board.now 1) c.in-Some.ensures.items c.requires.begun) in
    rw c.in-Err.ensures.err (p.2, search rules, search rules, c.requires.some, c.requires.most)

pub returns-in-Ok-clause-each : goal.returns-in-Ok-clause-each
returns-in-Ok-clause-each g t c =
    let rest = c.pop.new.self.items in
    let seat = c.in-Some.seat in
    let script = c.index-scripts-at.result in
    let short : length rest < length c.args.scripts.now = search rules in
    let at : script ≡ get_or c.args.scripts.now (length rest) script = search rules in
    let hands : HandsBack seat script c.join.result = search rules in
    each_popped c.args.seats.items rest c.args.scripts.now c.run_each-all.result.items c.push_reserved.new.self.items seat script c.join.result
    c.in-Some.ensures.items short at c.push_reserved.ensures.items c.run_each-all.ensures.each hands

pub returns-in-Err-clause-each : goal.returns-in-Err-clause-each
returns-in-Err-clause-each g t c =
    let rest = c.pop.new.self.items in
    let seat = c.in-Some.seat in
    let script = c.index-scripts-at.result in
    let short : length rest < length c.args.scripts.now = search rules in
    let at : script ≡ get_or c.args.scripts.now (length rest) script = search rules in
    let hands : HandsBack seat script c.spawn_with.result = search rules in
    each_popped c.args.seats.items rest c.args.scripts.now c.run_each-all-in-Err.result.items c.push_reserved-in-Err.new.self.items seat script c.spawn_with.result
    c.in-Some.ensures.items short at c.push_reserved-in-Err.ensures.items c.run_each-all-in-Err.ensures.each hands
