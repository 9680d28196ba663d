use Rattle.std.proofs.Common.{rules, FitsSigned, w64}
use Rattle.std.proofs.lemmas.Int.{to_z-of_z}
use Rattle.path_search.proofs.shown.path_in.Goals as goal

pub test_that_counts-requires-clause-offer : goal.test_that_counts-requires-clause-offer
test_that_counts-requires-clause-offer g c =
    let f : FitsSigned w64 c.ends_of-ends.result.offer = search rules in
    simp to_z-of_z c.end_laws.ensures.offer

pub path_by-requires-clause-counted : goal.path_by-requires-clause-counted
path_by-requires-clause-counted g c =
    let f : FitsSigned w64 c.ends_of-ends.result.offer = search rules in
    simp to_z-of_z at c.in_ok-counted.ensures.counted
