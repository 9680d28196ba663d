use Rattle.std.proofs.Common.{◌≡◌, ◌+◌, false, ◌++◌, length, map, reverse, None}
use Rattle.std.specs.List.{All}
use Rattle.version_board.specs.History.{told}
use Rattle.version_board.specs.Gathered.{tells}
use Rattle.version_board.proofs.boards.gather.Given as goal

abbrev pub invariant-loop-seat : goal.invariant-loop-seat
invariant-loop-seat g l = record {
  table : l.whole.table_id ≡ l.row.table_id;
  live : l.whole.me.0.spent ≡ false;
  idle : l.whole.me.0.turn ≡ None;
  parts : l.whole.me.0.parts + length l.seats.items ≡ length l.fn.seats.items;
  seats : map tells l.fn.seats.items ≡ map tells l.seats.items ++ reverse (told l.whole.me.0);
  boards : All (λ s. s.board ≡ l.row.table_id) l.seats.items;
}

abbrev pub decreases-loop-seat : goal.decreases-loop-seat
decreases-loop-seat g l = length l.seats.items
