use Rattle.std.proofs.Common.{◌≡◌, ◌+◌, drop, length}
use Rattle.std.specs.Vec.Iter.{into_iter_items, into_iter_len}
use Rattle.level_cone.specs.Cone.{put_all}
use Rattle.arrival_engine.specs.Updated.{rows_told, delays_told}
use Rattle.arrival_engine.proofs.updates.put_each.Given as goal

abbrev pub invariant-loop-answer : goal.invariant-loop-answer
invariant-loop-answer l = record {
  many : l.at + length (into_iter_items l.answer-iterator) ≡ length l.nodes;
  rows_long : length l.tables.rows ≡ length l.fn.tables.rows;
  delays_long : length l.tables.delays ≡ length l.fn.tables.delays;
  rows : put_all l.tables.rows (drop l.at l.nodes) (rows_told (into_iter_items l.answer-iterator)) ≡ put_all l.fn.tables.rows l.nodes (rows_told l.fn.answers);
  delays : put_all l.tables.delays (drop l.at l.nodes) (delays_told (into_iter_items l.answer-iterator)) ≡ put_all l.fn.tables.delays l.nodes (delays_told l.fn.answers);
  left : into_iter_len l.answer-iterator ≡ length (into_iter_items l.answer-iterator);
}
