use Rattle.std.proofs.Common.{◌≡◌, [], drop}
use Rattle.std.specs.Prelude.{nat_eq}
use Rattle.indexmap.specs.IndexSet.{insert_all}
use Rattle.path_cones.proofs.reaching.ends_found.Given as goal

abbrev pub invariant-loop-end : goal.invariant-loop-end
invariant-loop-end l = insert_all nat_eq l.found.keys (drop l.end-index l.ends) ≡ insert_all nat_eq [] l.ends
