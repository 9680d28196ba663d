use Rattle.std.proofs.Common.{◌+◌, ◌-◌, ◌/◌, ◌<◌, ◌≤◌, length, get_or, arith}
use Rattle.std.proofs.lemmas.List.{get_or_default}
use Rattle.affected_cone.proofs.FindLaws.{no_end, upper_half, lower_half}
use Rattle.affected_cone.proofs.ends.halved.Goals as goal

pub returns-then-ends-middle-clause-bounds : goal.returns-then-ends-middle-clause-bounds
returns-then-ends-middle-clause-bounds c =
    let some = c.requires.some in
    let within = c.requires.bounds.within in
    let above : c.args.low ≤ c.args.low + (c.args.high - c.args.low) / 2 = omega arith in
    let below : c.args.low + (c.args.high - c.args.low) / 2 < c.args.high = omega arith in
    let here : c.args.low + (c.args.high - c.args.low) / 2 < length c.args.ends.now = omega arith in
    upper_half c.args.ends.now c.requires.rising c.args.pin c.args.low c.args.high c.requires.bounds (c.args.low + (c.args.high - c.args.low) / 2) above below
    (get_or c.args.ends.now (c.args.low + (c.args.high - c.args.low) / 2) no_end)
    (get_or_default c.args.ends.now (c.args.low + (c.args.high - c.args.low) / 2) no_end (get_or c.args.ends.now (c.args.low + (c.args.high - c.args.low) / 2) no_end) here)
    c.if-ends-middle.true

pub returns-else-ends-middle-clause-bounds : goal.returns-else-ends-middle-clause-bounds
returns-else-ends-middle-clause-bounds c =
    let some = c.requires.some in
    let within = c.requires.bounds.within in
    let above : c.args.low ≤ c.args.low + (c.args.high - c.args.low) / 2 = omega arith in
    let below : c.args.low + (c.args.high - c.args.low) / 2 < c.args.high = omega arith in
    let here : c.args.low + (c.args.high - c.args.low) / 2 < length c.args.ends.now = omega arith in
    lower_half c.args.ends.now c.requires.rising c.args.pin c.args.low c.args.high c.requires.bounds (c.args.low + (c.args.high - c.args.low) / 2) above below
    (get_or c.args.ends.now (c.args.low + (c.args.high - c.args.low) / 2) no_end)
    (get_or_default c.args.ends.now (c.args.low + (c.args.high - c.args.low) / 2) no_end (get_or c.args.ends.now (c.args.low + (c.args.high - c.args.low) / 2) no_end) here)
    c.if-ends-middle.false
