-- The partition point of the inner entries is the number of those that are not above `x`.
use Rattle.std.proofs.Common.{rules, of_calls, int_le, ◌-◌, length, sym, arith}
use Rattle.std.proofs.lemmas.Fn.{always_returns_same}
use Rattle.std.specs.List.{slice_range}
use Rattle.nldm_lookup.proofs.Rising.{axis_rises, rising_parted, count_from_point}
use Rattle.nldm_lookup.proofs.axes.segment.Goals as goal

pub returns-clause-value : goal.returns-clause-value
returns-clause-value c =
    let axis = c.args.axis.now in
    let point = c.partition_point.ensures.partitioned (λ e. int_le e c.args.x) (always_returns_same _ _ _ (λ a r f k. search (rules, of_calls)))
    (rising_parted axis c.args.x 1 (length axis - 1) (omega arith) (axis_rises axis c.requires.axis)) in
    sym (count_from_point (λ e. int_le e c.args.x) (slice_range axis 1 (length axis - 1)) c.partition_point.result c.partition_point.ensures.bound point)
