-- An order of numbers that is kept in places, some of them empty (own).

use Rattle.std.specs.Prelude.{◌≡◌, ◌≢◌, ℕ, List, Option, Some, slice_get}
use Rattle.std.specs.List.{filter_map}

-- the numbers that stand, in order
abbrev pub standing : List (Option ℕ) → List ℕ
standing order = filter_map (λ number. number) order

-- each number that stands knows its place
abbrev pub ArePlaced : List (Option ℕ) → List ℕ → Type 0
ArePlaced order places = (p n : ℕ) → slice_get order p ≡ Some (Some n) → slice_get places n ≡ Some p

-- the places of all numbers but one stay
abbrev pub KeepsPlaces : ℕ → List ℕ → List ℕ → Type 0
KeepsPlaces number before after = (n p : ℕ) → n ≢ number → slice_get before n ≡ Some p → slice_get after n ≡ Some p
