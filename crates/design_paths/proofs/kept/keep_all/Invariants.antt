use Rattle.std.proofs.Common.{◌≡◌}
use Rattle.std.specs.Vec.Iter.{into_iter_items}
use Rattle.design_paths.specs.Kept.{kept_all}
use Rattle.design_paths.proofs.kept.keep_all.Given as goal

abbrev pub invariant-loop-path : goal.invariant-loop-path
invariant-loop-path l = kept_all l.most l.kept.items (into_iter_items l.path-iterator) ≡ kept_all l.fn.most l.fn.kept.items l.fn.more
