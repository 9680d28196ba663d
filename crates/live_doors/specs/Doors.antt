-- The door of a session: the lines that come in at it, and what was done at it, in order.
use Rattle.std.specs.Prelude.{◌≡◌, ℕ, ◌⊎◌, List, [], ◌∷◌, ◌++◌, option_map, take, vec_items, ⊤}
use Rattle.std.specs.Global.{Vec}
use Rattle.std.specs.declared.option.Option.{Option}
use Rattle.std.specs.declared.option.Option.TheVariants.{None, Some}
use Rattle.sta_outside.specs.Shelf.{Rose}
use Rattle.live_doors.specs.declared.door.Lost.{Lost}
use Rattle.live_doors.specs.declared.door.Lost.TheVariants.{Input, Output, Memory}

-- what was done at a door: a line was read, a version was kept (all entries up to its number stand in the journal's file), a
-- piece was written
pub data Deed : Type 0 where
  heard : List ℕ → Deed
  kept : ℕ → Deed
  said : List ℕ → Deed

-- told lines to come lose these at their front, and lines that are not told stay so
abbrev pub Loses : Option (List (List ℕ)) → Option (List (List ℕ)) → List (List ℕ) → Type 0
Loses None None lines = ⊤
Loses None (Some left) lines = ⊥
Loses (Some old) None lines = ⊥
Loses (Some old) (Some left) lines = old ≡ lines ++ left

-- told deeds grow by these at their end, and deeds that are not told stay so
abbrev pub Grows : Option (List Deed) → Option (List Deed) → List Deed → Type 0
Grows None None deeds = ⊤
Grows None (Some new) deeds = ⊥
Grows (Some old) None deeds = ⊥
Grows (Some old) (Some new) deeds = new ≡ old ++ deeds

-- where the lines to come are told, there are none
abbrev pub IsAtEnd : Option (List (List ℕ)) → Type 0
IsAtEnd None = ⊤
IsAtEnd (Some left) = left ≡ []

-- where the deeds are told, nothing was done
abbrev pub IsUntouched : Option (List Deed) → Type 0
IsUntouched None = ⊤
IsUntouched (Some deeds) = deeds ≡ []

-- what was heard: the first line of those to come, or that there are none
abbrev pub Hears : Option (List (List ℕ)) → Option (List (List ℕ)) → Option (List Deed) → Option (List Deed) → Option (List ℕ) → Type 0
Hears old left before after None = IsAtEnd old × Loses old left [] × Grows before after []
Hears old left before after (Some line) = Loses old left (line ∷ []) × Grows before after (heard line ∷ [])

-- nothing, or that a prefix of a piece was written
abbrev pub IsPartOf : List ℕ → List Deed → Type 0
IsPartOf piece deeds = (deeds ≡ []) ⊎ ((n : ℕ) × (deeds ≡ said (take n piece) ∷ []))

-- nothing of a piece was written, or a prefix of it
abbrev pub SaysPart : Option (List Deed) → Option (List Deed) → List ℕ → Type 0
SaysPart before after piece = (deeds : List Deed) × IsPartOf piece deeds × Grows before after deeds

-- a piece was said
abbrev pub Says : Option (List Deed) → Option (List Deed) → List ℕ → Type 0
Says before after piece = Grows before after (said piece ∷ [])

module _ {D : Type 0} where
  -- what was heard at a door that tells its lines to come and its deeds in this way
  abbrev pub HearsAt : (D → Option (List (List ℕ))) → (D → Option (List Deed)) → D → D → Option (Vec ℕ) → Type 0
  HearsAt left trace old new got = Hears (left old) (left new) (trace old) (trace new) (option_map vec_items got)

  -- nothing was heard at it
  abbrev pub HearsNothing : (D → Option (List (List ℕ))) → (D → Option (List Deed)) → D → D → Type 0
  HearsNothing left trace old new = Loses (left old) (left new) [] × Grows (trace old) (trace new) []

-- why no line was heard, by the counts of faults before and after
abbrev pub HasCause : Lost → ℕ → ℕ → Type 0
HasCause Input before after = Rose before after
HasCause Output before after = ⊥
HasCause Memory before after = after ≡ before
