use Rattle.std.proofs.Common.{◌<◌, ◌*◌, length, ap, ◌∙◌, rules, arith}
use Rattle.std.proofs.lemmas.List.{length-set}
use Rattle.arrival_engine.proofs.updates.empty_pin.Goals as goal

pub set-requires-2 : goal.set-requires-2
set-requires-2 c =
    let low : 2 * c.args.pin < length c.args.rows.now = search rules in
    let high = c.requires c.args.pin low in
    let size = ap length c.in_ok-set.ensures.ok ∙ length-set _ _ _ in
    omega (arith, high, size)
