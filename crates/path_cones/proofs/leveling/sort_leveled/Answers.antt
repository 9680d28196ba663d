use Rattle.std.proofs.Common.{rules}
use Rattle.std.proofs.lemmas.List.Sorted.{IsNonDecreasingBy-from_sort_by_key}
use Rattle.path_cones.specs.Reaching.{depth_of}
use Rattle.path_cones.proofs.leveling.sort_leveled.Goals as goal

pub returns-clause-falling : goal.returns-clause-falling
returns-clause-falling c =
    IsNonDecreasingBy-from_sort_by_key depth_of c.sort_unstable_by_key.new.self.items c.sort_unstable_by_key.ensures.sorted (λ a r q k. search rules)
