-- Many writes to a list.
use Rattle.std.specs.Prelude.{ℕ, ◌-◌, List, [], ◌∷◌, Option, None, Some, Result, Ok, Err, set, if◌then◌else◌, nat_le}

module _ {A E : Type 0} where
  -- the items from place `first` on, after a value was written at its place; nothing is written where
  -- the value is an error or the place is not among theirs
  unfoldable pub put_at : ℕ → List A → ℕ → Result A E → List A
  put_at first items place (Ok value) = if nat_le first place then set items (place - first) value else items
  put_at first items place (Err e) = items

  -- the items from place `first` on, after each value was written at its place, in order
  unfoldable pub written : ℕ → List A → List ℕ → List (Result A E) → List A
  written first items (place ∷ places) (value ∷ values) = written first (put_at first items place value) places values
  written first items [] values = items
  written first items (place ∷ places) [] = items

  -- the first value that is an error
  unfoldable pub first_refused : List (Result A E) → Option E
  first_refused [] = None
  first_refused (Ok value ∷ values) = first_refused values
  first_refused (Err e ∷ values) = Some e
