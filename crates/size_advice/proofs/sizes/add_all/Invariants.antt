use Rattle.std.proofs.Common.{◌≡◌, ◌++◌, length}
use Rattle.std.specs.Vec.Iter.{into_iter_items, into_iter_len}
use Rattle.size_advice.proofs.sizes.add_all.Given as goal

abbrev pub invariant-loop-candidate : goal.invariant-loop-candidate
invariant-loop-candidate l = record {
  rest : l.made ++ into_iter_items l.candidate-iterator ≡ l.fn.made ++ l.fn.more;
  left : into_iter_len l.candidate-iterator ≡ length (into_iter_items l.candidate-iterator);
}
