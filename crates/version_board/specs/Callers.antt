-- What callers see of a board and its seats, and what a turn tells them.
use Rattle.std.specs.Prelude.{◌≡◌, ℕ, ◌+◌, false, List, [], ◌∷◌, ◌++◌, length, Some, None}
use mathlib.Core.List.{IsPrefix}
use Rattle.atomic_table.specs.Seated.{TableId}
use Rattle.version_board.specs.declared.views.View.{View}
use Rattle.version_board.specs.History.{Meaning, own}
use Rattle.version_board.specs.Steps.{Sat}

-- a board: which one it is, the value that it opened with, and for how many seats
pub record Standing (T : Type 0) : Type 0 where
  pub id : TableId
  pub opening : T
  pub seats : ℕ

-- a seat: of which board, and what it knows
pub record Sitting (E O : Type 0) : Type 0 where
  pub board : TableId
  pub view : View E O

-- a table of a board has three words and one slot
abbrev pub IsSized : TableId → Type 0
IsSized id = (id.words ≡ 3) × (id.slots ≡ 1)

-- the seat has no turn, counts for itself alone and took in no other
abbrev pub IsResting : {A E O : Type 0} → Sat A E O → Type 0
IsResting me = (me.1 ≡ []) × (me.0.turn ≡ None) × (me.0.inside ≡ false) × (me.0.marked ≡ false) × (me.0.spent ≡ false) × (me.0.parts ≡ 1) × (me.0.olds ≡ [])

abbrev pub meaning : {T E O : Type 0} → (T → List E) → (T → ℕ) → (T → O) → (E → ℕ) → Meaning T E O
meaning entries from origin by = record { entries = entries; from = from; origin = origin; by = by }

-- the seat is at this board, and knows that its history begins at f over the origin o
abbrev pub SitsAt : {E O : Type 0} → TableId → ℕ → O → Sitting E O → Type 0
SitsAt id f o s = (s.board ≡ id) × (s.view.first ≡ f) × (s.view.origin ≡ Some o)

module _ {T E O : Type 0} where
  -- the seat is one of the board
  abbrev pub IsSeatOf : Meaning T E O → Standing T → Sitting E O → Type 0
  IsSeatOf m b s = SitsAt b.id (m.from b.opening) (m.origin b.opening) s

  -- the value stands for the list, with the board's origin and first number
  abbrev pub StandsFor : Meaning T E O → Standing T → List E → T → Type 0
  StandsFor m b log x = (m.entries x ≡ log) × (m.from x ≡ m.from b.opening) × (m.origin x ≡ m.origin b.opening)

  -- the value has the board's origin and first number, and one entry, the seat's own, after a beginning of what the seat has seen; it has the count base + 1
  abbrev pub Continues : Meaning T E O → Standing T → View E O → ℕ → T → Type 0
  Continues m b v base x = (m.from x ≡ m.from b.opening) × (m.origin x ≡ m.origin b.opening) × (m.from x + length (m.entries x) ≡ base + 1)
      × ((l : List E) × (e : E) × (m.entries x ≡ l ++ e ∷ []) × IsPrefix l v.seen × (m.by e ≡ v.number))

module _ {E O : Type 0} where
  -- the seat has its board, number, origin and first number as before
  abbrev pub IsSame : Sitting E O → Sitting E O → Type 0
  IsSame s t = (t.board ≡ s.board) × (t.view.number ≡ s.view.number) × (t.view.origin ≡ s.view.origin) × (t.view.first ≡ s.view.first)

  -- a seat that was just made, with the number n
  abbrev pub IsNew : ℕ → Sitting E O → Type 0
  IsNew n s = (s.view.number ≡ n) × (s.view.seen ≡ []) × (s.view.mine ≡ []) × (s.view.looks ≡ [])

  -- the seat looked at the history log, once: its count was told, and all that the seat had seen begins it
  abbrev pub Looks : View E O → List E → View E O → Type 0
  Looks v log w = (w.looks ≡ v.looks ++ (v.first + length log) ∷ []) × IsPrefix v.seen log

  -- the list l was published: the seat looked at all of it but its last entry, and has that entry as its own
  abbrev pub Publishes : View E O → List E → View E O → Type 0
  Publishes v l w = (log : List E) (e : E) → l ≡ log ++ e ∷ [] → Looks v log w × (w.seen ≡ l) × (w.mine ≡ v.mine ++ e ∷ [])

  -- each seat has seen a beginning of the closed list, and its own entries are those with its number
  abbrev pub AgreesWith : (E → ℕ) → List E → Sitting E O → Type 0
  AgreesWith by log s = IsPrefix s.view.seen log × (s.view.mine ≡ own by s.view.number log)

  abbrev pub number : Sitting E O → ℕ
  number s = s.view.number
