-- The bytes that a sink was given, where they are told.
use Rattle.std.specs.Prelude.{◌≡◌, ℕ, List, [], ◌++◌, Bool, cond, not, ◌&&◌, nat_le, length, take, ⊤}
use Rattle.std.specs.declared.option.Option.{Option}
use Rattle.std.specs.declared.option.Option.TheVariants.{None, Some}

-- told bytes grow by a piece at their end, and bytes that are not told stay so
abbrev pub Appends : Option (List ℕ) → Option (List ℕ) → List ℕ → Type 0
Appends None None piece = ⊤
Appends None (Some new) piece = ⊥
Appends (Some old) None piece = ⊥
Appends (Some old) (Some new) piece = new ≡ old ++ piece

-- told bytes grow by a prefix of a piece
abbrev pub AppendsPrefix : Option (List ℕ) → Option (List ℕ) → List ℕ → Type 0
AppendsPrefix old new piece = (n : ℕ) × Appends old new (take n piece)

-- whether a put that a plan fails or not takes all of a piece, with this much room left
abbrev pub succeeds : Bool → ℕ → List ℕ → Bool
succeeds fails free piece = not fails && nat_le (length piece) free

-- what such a put takes: nothing where it fails by the plan, else what fits
abbrev pub taken : Bool → ℕ → List ℕ → List ℕ
taken fails free piece = cond fails [] (take free piece)
