use Rattle.std.proofs.Common.{◌≡◌, ℕ, ◌+◌, ◌<◌, [], length, IfSome, slice_get}
use Rattle.std.specs.List.{All}
use Rattle.std.specs.Vec.{vec_capacity}
use Rattle.version_board.specs.Callers.{SitsAt, IsNew}
use Rattle.version_board.proofs.Making.{IsMaker}
use Rattle.version_board.proofs.boards.seat_all.Given as goal

abbrev pub invariant-loop-made : goal.invariant-loop-made
invariant-loop-made g l = record {
  table : l.place.table_id ≡ l.row.table_id;
  bare : l.place.me.1 ≡ [];
  maker : IsMaker (g.T.Stands.from l.row.key.0.value) (g.T.Stands.origin l.row.key.0.value) (length l.list.items + 1) l.place.me.0;
  parts : l.place.me.0.parts + length l.list.items ≡ l.seats;
  made : length l.list.items + 1 ≡ l._made;
  room : vec_capacity l.list ≡ l.seats;
  sits : All (SitsAt l.row.table_id (g.T.Stands.from l.row.key.0.value) (g.T.Stands.origin l.row.key.0.value)) l.list.items;
  new : (k : ℕ) → k < length l.list.items → IfSome (slice_get l.list.items k) (IsNew (k + 1));
}
