-- The rule of the board, between any two steps.
use Rattle.std.specs.Prelude.{◌≡◌, ℕ, ◌+◌, ◌^◌, ◌≤◌, true, false, List, [], Option, Some, None, length, slice_index}
use Rattle.atomic_table.specs.Table.{State}
use Rattle.version_board.specs.declared.views.View.{View}
use Rattle.version_board.specs.Turns.{Turns}
use Rattle.version_board.specs.History.{Meaning, History}
use Rattle.version_board.specs.Seats.{Seats}

-- word 0 is the next ticket, word 1 the ticket that is served, and word 2 the count of the history, which begins at f. The board is for `all` seats
pub record Orderly {A E O : Type 0} (m : Meaning A E O) (f : ℕ) (o : O) (all : ℕ) (s : State (Option A) (View E O)) : Type 0 where
  pub log : List E
  pub seats : ℕ
  pub wide : length s.words ≡ 3
  pub deep : length s.homes ≡ 1
  pub small : f ≤ 2 ^ 62
  pub counted : slice_index s.words 2 ≡ f + length log
  pub turns : Turns (slice_index s.words 1) (slice_index s.words 0) s.homes s.views
  pub history : History m f o (slice_index s.words 1) log seats s.homes s.views
  pub seated : Seats all seats s.views

-- the first seat of a board for `all` seats, from the number f over the origin o
abbrev pub opened : {E O : Type 0} → ℕ → O → ℕ → View E O
opened f o all = record {
  number = 1;
  turn = None;
  inside = false;
  marked = false;
  spent = false;
  held = [];
  seen = [];
  mine = [];
  looks = [];
  origin = Some o;
  first = f;
  parts = all;
  maker = true;
  made = 1;
  olds = [];
}
