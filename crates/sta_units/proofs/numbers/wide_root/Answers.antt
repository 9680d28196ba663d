-- Where the two ends meet, the lower one is the root.
use Rattle.std.proofs.Common.{◌≡◌, ◌+◌, ◌*◌, ◌<◌, arith, sym}
use Rattle.sta_units.proofs.Roots.{root_of_is, starts}
use Rattle.sta_units.proofs.numbers.wide_root.Goals as goal

pub returns-clause-value : goal.returns-clause-value
returns-clause-value c =
    let meet : c.loop-high.high ≡ c.loop-high.low + 1 = omega arith in
    let above : c.args.n < (c.loop-high.low + 1) * (c.loop-high.low + 1) = rw meet at c.loop-high.invariant.1 in
    sym (root_of_is c.args.n c.loop-high.low c.loop-high.invariant.0 above)

pub loop-high-init : goal.loop-high-init
loop-high-init c =
    starts c.args.n c.ilog2-half.result c.ilog2-half.ensures.power_le c.ilog2-half.ensures.next_power_gt c.ilog2-half.ensures.bound
