-- A linearised history (Herlihy and Wing, 1990): one list of entries that only grows, each entry added at one step.
-- The newest value stands for all of it, and each seat knows a beginning of it.
use Rattle.std.specs.Prelude.{◌≡◌, ◌⊎◌, ℕ, ◌+◌, ◌<◌, ◌≤◌, ◌==◌, true, false, cond, List, [], ◌∷◌, length, Some}
use Rattle.std.specs.List.{All, filter, count_by, sum_by}
use mathlib.Core.Option.{some}
use mathlib.Core.List.{IsPrefix}
use lib.ListN.{get_elem?}
use Rattle.std.specs.declared.sync.Arc.{Arc}
use Rattle.std.specs.declared.alloc.Global.{Global}
use Rattle.version_board.specs.declared.views.View.{View}
use Rattle.version_board.specs.declared.views.Old.{Old}
use Rattle.version_board.specs.Turns.{Homes}

-- what a value of A stands for, and which seat an entry is of
pub record Meaning (A E O : Type 0) : Type 0 where
  pub entries : A → List E
  pub from : A → ℕ
  pub origin : A → O
  pub by : E → ℕ

-- the same of a value that several own
abbrev pub shared : {T E O : Type 0} → (T → List E) → (T → ℕ) → (T → O) → (E → ℕ) → Meaning (Arc T Global) E O
shared entries from origin by = record { entries = λ a. entries a.value; from = λ a. from a.value; origin = λ a. origin a.value; by = by }

-- the entries of the seat n, in order
abbrev pub own : {E : Type 0} → (E → ℕ) → ℕ → List E → List E
own by n log = filter (λ e. by e == n) log

-- numbers that never fall, from lo to hi
abbrev pub Rising : ℕ → ℕ → List ℕ → Type 0
Rising lo hi [] = lo ≤ hi
Rising lo hi (n ∷ ns) = (lo ≤ n) × Rising n hi ns

module _ {E : Type 0} where
  -- one of these seats has seen all of the history
  abbrev pub HasSeen : List E → List (Old E) → Type 0
  HasSeen log [] = ⊥
  HasSeen log (t ∷ ts) = (t.seen ≡ log) ⊎ HasSeen log ts

  -- a seat has seen a beginning of the history, and its entries are those with its number
  abbrev pub Follows : (E → ℕ) → List E → Old E → Type 0
  Follows by log t = IsPrefix t.seen log × (t.mine ≡ own by t.number log)

module _ {E O : Type 0} where
  -- what a view tells of its own seat
  abbrev pub itself : View E O → Old E
  itself v = record { number = v.number; seen = v.seen; mine = v.mine }

  -- the seats that a view tells of: its own, unless it is spent, and those that it took in
  abbrev pub told : View E O → List (Old E)
  told v = cond v.spent v.olds (itself v ∷ v.olds)

  -- how many of them have the number n
  abbrev pub holders : ℕ → View E O → ℕ
  holders n v = count_by (λ t. t.number == n) (told v)

  -- some seat is inside and has counted an entry
  abbrev pub SomeMarked : List (View E O) → Type 0
  SomeMarked views = (i : ℕ) × (v : View E O) × (get_elem? views i ≡ some v) × (v.inside ≡ true) × (v.marked ≡ true)

  abbrev pub SomeSeen : List E → List (View E O) → Type 0
  SomeSeen log views = (i : ℕ) × (v : View E O) × (get_elem? views i ≡ some v) × HasSeen log (told v)

  -- what a seat knows of the board, where the history begins at f over the origin o
  pub record Knows (f : ℕ) (o : O) (log : List E) (v : View E O) : Type 0 where
    pub looks : Rising f (f + length log) v.looks
    pub origin : v.origin ≡ Some o
    pub first : v.first ≡ f
    pub held : v.inside ≡ true → v.held ≡ log

  -- the seats 1 to `seats` were made, and each is told of once
  pub record Numbered (seats : ℕ) (views : List (View E O)) : Type 0 where
    pub once : (n : ℕ) → 0 < n → n ≤ seats → sum_by (holders n) views ≡ 1
    pub no_other : (n : ℕ) → (n ≡ 0) ⊎ (seats < n) → sum_by (holders n) views ≡ 0

module _ {A E O : Type 0} where
  -- the value has the first number and the origin that the seat knows
  abbrev pub Fits : Meaning A E O → View E O → A → Type 0
  Fits m v a = (m.from a ≡ v.first) × (Some (m.origin a) ≡ v.origin)

  pub record History (m : Meaning A E O) (f : ℕ) (o : O) (serving : ℕ) (log : List E) (seats : ℕ) (homes : Homes A) (views : List (View E O)) : Type 0 where
    pub room : (length log ≤ serving) ⊎ ((length log ≤ serving + 1) × SomeMarked views)
    pub home : (a : A) → get_elem? homes 0 ≡ some (some (Some a)) → (m.entries a ≡ log) × (m.from a ≡ f) × (m.origin a ≡ o)
    pub each : (i : ℕ) (v : View E O) → get_elem? views i ≡ some v → v.spent ≡ false → Knows f o log v
    pub follows : (i : ℕ) (v : View E O) → get_elem? views i ≡ some v → All (Follows m.by log) (told v)
    pub seen : SomeSeen log views
    pub numbers : Numbered seats views
    pub whose : All (λ e. (0 < m.by e) × (m.by e ≤ seats)) log
