use Rattle.std.proofs.Common.{◌≡◌, ◌++◌, drop}
use Rattle.size_advice.specs.Sizes.{sizes_of_all}
use Rattle.size_advice.proofs.sizes.sizes_of_all.Given as goal

abbrev pub invariant-loop-name : goal.invariant-loop-name
invariant-loop-name l = l.made ++ sizes_of_all l.store.design (drop l.name-index l.names) ≡ sizes_of_all l.store.design l.names
