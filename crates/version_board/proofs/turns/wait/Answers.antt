use Rattle.std.proofs.Common.{rules, ◌≡◌, Some}
use Rattle.version_board.proofs.Lifted.{in_hand, reads}
use Rattle.version_board.proofs.Steps.{looks}
use Rattle.version_board.proofs.turns.wait.Goals as goal

pub load-requires : goal.load-requires
load-requires g c = (search rules, search rules, looks _ _ _ _ _ _ _ c.args.ticket (search rules) (search rules) (search rules))

pub exchange-requires : goal.exchange-requires
exchange-requires g c = let on : c.loop.place.me.0.turn ≡ Some c.load.result = search rules in let t = c.load.ensures.2.0 on in
    (search rules, (Some t.0, in_hand c.load.new.seat.me.1 c.loop.place.me.1 0 (Some t.0) (λ i. (t.1 i).1)))

pub unwrap-requires : goal.unwrap-requires
unwrap-requires g c = let on : c.loop.place.me.0.turn ≡ Some c.load.result = search rules in let t = c.load.ensures.2.0 on in
    let it : c.exchange.result ≡ Some t.0 = reads c.load.new.seat.me.1 c.loop.place.me.1 0 c.exchange.result (Some t.0) (λ i. (t.1 i).1) c.exchange.ensures.2 in search rules
