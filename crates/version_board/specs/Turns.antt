-- The ticket lock of Mellor-Crummey and Scott (1991): who draws a ticket waits until that ticket is served.
-- The slot is at home with a value, unless who is inside has it.
use Rattle.std.specs.Prelude.{◌≡◌, ◌⊎◌, ℕ, ◌^◌, ◌<◌, ◌≤◌, true, List, Option, Some}
use mathlib.Core.Option.{some, none}
use mathlib.Core.Option as maybe
use lib.ListN.{get_elem?}
use Rattle.version_board.specs.declared.views.View.{View}

-- the slot, where it is at home with something
abbrev pub Homes : Type 0 → Type 0
Homes A = List (maybe.Option (Option A))

module _ {E O : Type 0} where
  -- a turn was drawn and is not over, and who is inside has the turn that is served
  pub record Sits (serving ticket : ℕ) (v : View E O) : Type 0 where
    pub waits : (t : ℕ) → v.turn ≡ Some t → (serving ≤ t) × (t < ticket)
    pub served : v.inside ≡ true → v.turn ≡ Some serving

  -- some seat is inside
  abbrev pub SomeInside : List (View E O) → Type 0
  SomeInside views = (i : ℕ) × (v : View E O) × (get_elem? views i ≡ some v) × (v.inside ≡ true)

module _ {A E O : Type 0} where
  pub record Turns (serving ticket : ℕ) (homes : Homes A) (views : List (View E O)) : Type 0 where
    pub low : serving ≤ ticket
    pub high : ticket ≤ 2 ^ 62
    pub sits : (i : ℕ) (v : View E O) → get_elem? views i ≡ some v → Sits serving ticket v
    pub apart : (i j : ℕ) (v w : View E O) (t : ℕ) → get_elem? views i ≡ some v → get_elem? views j ≡ some w → v.turn ≡ Some t → w.turn ≡ Some t → i ≡ j
    pub out : (i : ℕ) (v : View E O) → get_elem? views i ≡ some v → v.inside ≡ true → get_elem? homes 0 ≡ some none
    pub head : ((a : A) × (get_elem? homes 0 ≡ some (some (Some a)))) ⊎ SomeInside views
