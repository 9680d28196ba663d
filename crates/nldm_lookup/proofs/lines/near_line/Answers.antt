-- A span has a length.
use Rattle.std.proofs.Common.{rules, FitsSigned, ◌≡◌, ◌-ℤ◌, arith, w64}
use Rattle.std.proofs.lemmas.Int.{ints, to_z-of_z}
use Rattle.nldm_lookup.proofs.lines.near_line.Goals as goal

pub near_quotient-requires-clause-positive : goal.near_quotient-requires-clause-positive
near_quotient-requires-clause-positive c =
    let fits : FitsSigned w64 c.near_difference-width.result = search rules in
    let from-fits : FitsSigned w64 c.args.span.from = search rules in
    let to-fits : FitsSigned w64 c.args.span.to = search rules in
    let value : c.near_difference-width.result ≡ c.args.span.to -ℤ c.args.span.from = simp to_z-of_z at c.near_difference-width.ensures.value in
    let up = c.requires.rising in
    simp to_z-of_z (rw value (omega (arith, ints, up)))
