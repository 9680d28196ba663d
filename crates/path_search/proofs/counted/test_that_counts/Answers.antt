use Rattle.std.proofs.Common.{FitsSigned}
use Rattle.std.proofs.lemmas.Int.{to_z-of_z}
use Rattle.path_search.proofs.counted.test_that_counts.Goals as goal
use mir.Syntax.{w64}

pub counted_by-requires-clause-offer : goal.counted_by-requires-clause-offer
counted_by-requires-clause-offer g c =
    let fits : FitsSigned w64 c.args.offer = c.ranges.offer in
    simp to_z-of_z c.requires.offer

pub returns-clause-counted : goal.returns-clause-counted
returns-clause-counted g c =
    let fits : FitsSigned w64 c.args.offer = c.ranges.offer in
    simp to_z-of_z at c.counted_by.ensures.counted
