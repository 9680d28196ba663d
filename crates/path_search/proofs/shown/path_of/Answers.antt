use Rattle.path_search.proofs.shown.path_of.Goals as goal

pub path_in-requires-clause-search : goal.path_in-requires-clause-search
path_in-requires-clause-search g c = c.requires.search.part
