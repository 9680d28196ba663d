-- Out of range by the power or the mantissa alone; else the product fits.
use Rattle.std.proofs.Common.{◌≤◌, ◌*ℤ◌, unsigned_abs, FitsSigned, rules}
use Rattle.std.proofs.lemmas.Int.{ints, to_z-of_z}
use Rattle.sta_units.specs.Numbers.{limit}
use Rattle.sta_units.proofs.Scaling.{power_over, mantissa_over, product_fits}
use Rattle.sta_units.proofs.decimals.scaled_up.Goals as goal
use mir.Syntax.{w128}

pub returns-then-power-gt12 : goal.returns-then-power-gt12
returns-then-power-gt12 c = power_over c.args.mantissa c.args.power c.if-mantissa-eq0.false c.if-power-gt12.true

pub returns-then-unsigned_abs : goal.returns-then-unsigned_abs
returns-then-unsigned_abs c = mantissa_over c.args.mantissa c.args.power (search (rules, ints))

pub overflow_mul-mantissa : goal.overflow_mul-mantissa
overflow_mul-mantissa c =
    let m-fits : FitsSigned w128 c.args.mantissa = c.ranges.mantissa in
    let ten-fits : FitsSigned w128 c.ten_to.result = search rules in
    let short : unsigned_abs c.args.mantissa ≤ limit = search (rules, ints) in
    simp to_z-of_z (rw c.ten_to.ensures.value (product_fits c.args.mantissa c.args.power short c.if-power-gt12.false))

pub returns : goal.returns
returns c =
    let m-fits : FitsSigned w128 c.args.mantissa = c.ranges.mantissa in
    let ten-fits : FitsSigned w128 c.ten_to.result = search rules in
    let short : unsigned_abs c.args.mantissa ≤ limit = search (rules, ints) in
    let product : FitsSigned w128 (c.args.mantissa *ℤ c.ten_to.result) =
    rw c.ten_to.ensures.value (product_fits c.args.mantissa c.args.power short c.if-power-gt12.false) in
    rw (← c.ten_to.ensures.value) (simp to_z-of_z at c.in_range.ensures)
