-- A span is narrow.
use Rattle.std.proofs.Common.{rules, FitsSigned, ◌*◌, ◌≤◌, unsigned_abs, arith}
use Rattle.std.proofs.lemmas.Int.{ints, to_z-of_z}
use Rattle.sta_units.specs.Numbers.{limit}
use Rattle.sta_units.proofs.Rounding.{signed_steps}
use Rattle.nldm_lookup.proofs.lines.wide_line.Goals as goal
use mir.Syntax.{w128}

pub rnd-requires-clause-divisor : goal.rnd-requires-clause-divisor
rnd-requires-clause-divisor c =
    let fits : FitsSigned w128 c.difference-width.result = search rules in
    let narrow : unsigned_abs c.difference-width.result ≤ 2 * limit = grind (arith, signed_steps) in
    simp to_z-of_z (omega (arith, ints, narrow))
