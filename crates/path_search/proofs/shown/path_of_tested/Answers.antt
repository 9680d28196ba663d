use Rattle.std.proofs.Common.{rules, FitsSigned, w64}
use Rattle.std.proofs.lemmas.Int.{to_z-of_z}
use Rattle.path_search.proofs.shown.path_of_tested.Goals as goal

pub walk_laws-requires-clause-search : goal.walk_laws-requires-clause-search
walk_laws-requires-clause-search g c = c.requires.search.part

pub end_laws-requires-clause-search : goal.end_laws-requires-clause-search
end_laws-requires-clause-search g c = c.requires.search.part

pub counted_in-requires-clause-offer : goal.counted_in-requires-clause-offer
counted_in-requires-clause-offer g c =
    let f : FitsSigned w64 c.ends_of-ends.result.offer = search rules in
    simp to_z-of_z c.end_laws.ensures.offer

pub path_by-requires-clause-counted : goal.path_by-requires-clause-counted
path_by-requires-clause-counted g c =
    let f : FitsSigned w64 c.ends_of-ends.result.offer = search rules in
    simp to_z-of_z at c.in_ok-counted.ensures.counted

pub path_by-requires-clause-search : goal.path_by-requires-clause-search
path_by-requires-clause-search g c = c.requires.search.part
