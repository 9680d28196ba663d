use Rattle.std.proofs.Common.{◌≡◌, ◌+◌, drop, length}
use Rattle.std.specs.Vec.Iter.{into_iter_items, into_iter_len}
use Rattle.cow_table.specs.Writes.{first_refused, written}
use Rattle.level_workers.specs.Mapped.{IsMap}
use Rattle.required_engine.specs.Worked.{IsCountedAt, answers_of}
use Rattle.required_engine.proofs.turns.put_answers.Given as goal

abbrev pub invariant-loop-counted : goal.invariant-loop-counted
invariant-loop-counted g l = record {
  many : l.at + length (into_iter_items l.counted-iterator) ≡ length l.nodes;
  long : length l.rows ≡ length l.fn.rows;
  rest : IsMap (IsCountedAt l.graph l.level) (drop l.at l.nodes) (into_iter_items l.counted-iterator);
  refused : first_refused (answers_of (into_iter_items l.counted-iterator)) ≡ first_refused (answers_of l.fn.found);
  put : written 0 l.rows (drop l.at l.nodes) (answers_of (into_iter_items l.counted-iterator)) ≡ written 0 l.fn.rows l.nodes (answers_of l.fn.found);
  ticks : l.steps ≡ l.fn.steps + l.at;
  left : into_iter_len l.counted-iterator ≡ length (into_iter_items l.counted-iterator);
}
