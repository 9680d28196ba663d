use Rattle.std.proofs.Common.{◌≡◌, ◌+◌, take, drop, length}
use Rattle.std.specs.Vec.Iter.{into_iter_items, into_iter_len}
use Rattle.level_workers.specs.Mapped.{IsMap}
use Rattle.arrival_engine.specs.Analysed.{IsLevelAnswer, IsNodeAnswer}
use Rattle.arrival_engine.proofs.passes.told.Given as goal

abbrev pub invariant-loop-counted : goal.invariant-loop-counted
invariant-loop-counted g l = record {
  many : length l.found + length (into_iter_items l.counted-iterator) ≡ length l.nodes;
  rest : IsMap (IsLevelAnswer l.graph l.level) (drop (length l.found) l.nodes) (into_iter_items l.counted-iterator);
  done : IsMap (IsNodeAnswer l.graph) (take (length l.found) l.nodes) l.found;
  counted : l.steps ≡ l.fn.steps + length l.found;
  left : into_iter_len l.counted-iterator ≡ length (into_iter_items l.counted-iterator);
}
