-- The quotient that the code takes is the rounded one, and it fits.
use Rattle.std.proofs.Common.{rules, FitsSigned, ◌+ℤ◌, ◌*ℤ◌, pos, w64}
use Rattle.std.proofs.lemmas.Int.{ints, to_z-of_z}
use Rattle.sta_units.specs.Numbers.{rounded}
use Rattle.sta_units.proofs.Rounding.{rounded-bound}
use Rattle.nldm_lookup.proofs.lines.near_quotient.Goals as goal

pub returns-clause-value : goal.returns-clause-value
unfolding rounded
returns-clause-value c =
    let n-fits : FitsSigned w64 c.args.n = c.ranges.n in
    let d-fits : FitsSigned w64 c.args.d = c.ranges.d in
    let double-n : FitsSigned w64 (pos 2 *ℤ c.args.n) = search (rules, ints) in
    let double-d : FitsSigned w64 (pos 2 *ℤ c.args.d) = search (rules, ints) in
    let shifted : FitsSigned w64 (pos 2 *ℤ c.args.n +ℤ c.args.d) = search (rules, ints) in
    let answer-fits : FitsSigned w64 c.div_euclid.result = search (rules, ints) in
    simp to_z-of_z (simp to_z-of_z at c.div_euclid.ensures)

pub returns-clause-bound : goal.returns-clause-bound
returns-clause-bound c =
    rw (returns-clause-value c) (rounded-bound c.args.n c.args.d c.requires.positive)
