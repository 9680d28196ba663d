-- What each step on the board's words does to the caller's view, and tells the caller.
use Rattle.std.specs.Prelude.{◌≡◌, ◌≢◌, ℕ, ◌+◌, true, false, List, [], ◌∷◌, ◌++◌, length, Option, Some, None}
use mathlib.Core.List.{IsPrefix}
use Rattle.atomic_table.specs.Table.{Me, Step}
use Rattle.version_board.specs.declared.views.View.{View}
use Rattle.version_board.specs.History.{Meaning, Fits}

-- a seat's view with the slots that it has, and a step, over values of A
abbrev pub Sat : Type 0 → Type 0 → Type 0 → Type 0
Sat A E O = Me (Option A) (View E O)

abbrev pub At : Type 0 → Type 0
At A = Step (Option A)

module _ {E O : Type 0} where
  -- after the ticket t was drawn
  abbrev pub waiting : ℕ → View E O → View E O
  waiting t v = record v { turn = Some t }

  -- after the ticket was seen served, with a value of the list l
  abbrev pub entered : List E → View E O → View E O
  entered l v = record v { inside = true; held = l }

  -- after the count n was read
  abbrev pub tallied : ℕ → View E O → View E O
  tallied n v = record v { seen = v.held; looks = v.looks ++ n ∷ [] }

  -- after the entry e was counted
  abbrev pub marked : E → View E O → View E O
  marked e v = record v { marked = true; held = v.seen ++ e ∷ []; seen = v.seen ++ e ∷ []; mine = v.mine ++ e ∷ [] }

  -- after the turn
  abbrev pub away : View E O → View E O
  away v = record v { turn = None; inside = false; marked = false }

module _ {A E O : Type 0} where
  -- the number that was asked for is the caller's ticket, where it was still the next one
  abbrev pub drew : At A → Sat A E O → ℕ → Sat A E O → Type 0
  drew st me found me' = (found ≡ st.first → me' ≡ (waiting st.first me.0, me.1)) × (found ≢ st.first → me' ≡ me)

  -- the caller has the slot, where its ticket is served
  abbrev pub looked : Meaning A E O → At A → Sat A E O → ℕ → Sat A E O → Type 0
  looked m st me found me' = (me.0.turn ≡ Some found → (a : A) × (me' ≡ (entered (m.entries a) me.0, (0, Some a) ∷ me.1)) × Fits m me.0 a) × (me.0.turn ≢ Some found → me' ≡ me)

  -- the count is that of the lifted list, which begins with all that the caller had seen
  abbrev pub tallies : At A → Sat A E O → ℕ → Sat A E O → Type 0
  tallies st me found me' = (me' ≡ (tallied found me.0, me.1)) × (found ≡ me.0.first + length me.0.held) × IsPrefix me.0.seen me.0.held

  -- the entry that the value in hand has more than the caller had seen is counted
  abbrev pub marks : Meaning A E O → At A → Sat A E O → ℕ → Sat A E O → Type 0
  marks m st me found me' = (a : A) (e : E) → me.1 ≡ (0, Some a) ∷ [] → m.entries a ≡ me.0.seen ++ e ∷ [] → me' ≡ (marked e me.0, me.1)

  -- the caller's turn is over, and the slot is back
  abbrev pub left : At A → Sat A E O → ℕ → Sat A E O → Type 0
  left st me found me' = me' ≡ (away me.0, [])
