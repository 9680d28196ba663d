use Rattle.std.proofs.Common.{◌*◌, ◌^◌, ◌<◌, ◌≤◌, ◌-◌}
use Rattle.sta_units.proofs.numbers.wide_root.Given as goal

abbrev pub invariant-loop-high : goal.invariant-loop-high
invariant-loop-high l =
    (l.low * l.low ≤ l.fn.n) × (l.fn.n < l.high * l.high) × (l.low < l.high) × (l.high ≤ 2 ^ 64)

abbrev pub decreases-loop-high : goal.decreases-loop-high
decreases-loop-high l = l.high - l.low
