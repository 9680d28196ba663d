-- Documents by name as the outside holds them, and when each answer of a fetch may come.
use Rattle.std.specs.Prelude.{◌≡◌, ℕ, ◌+◌, ◌-◌, ◌^◌, ◌<◌, ◌≤◌, ◌⊎◌, List, [], ◌∷◌, cond, length, min, ⊤, IsSomeAnd}
use Rattle.std.specs.Str.{bytes_eq}
use Rattle.std.specs.declared.option.Option.{Option}
use Rattle.std.specs.declared.option.Option.TheVariants.{None, Some}
use Rattle.sta_outside.specs.declared.shelf.Fetch.{Fetch}
use Rattle.sta_outside.specs.declared.shelf.Fetch.TheVariants.{Failed, Absent, TooLong, Memory}

-- the document of a name in a finite map, kept as a list of names with their documents
abbrev pub held : List (List ℕ × List ℕ) → List ℕ → Option (List ℕ)
held [] name = None
held (d ∷ ds) name = cond (bytes_eq d.0 name) (Some d.1) (held ds name)

-- the greatest length of a document, 64 MiB
abbrev pub document_limit : ℕ
document_limit = 67108864

-- the map of a shelf that does not tell its documents
abbrev pub untold : Option (List (List ℕ × List ℕ))
untold = None

-- where the map is told, it has these bytes under the name
abbrev pub Told : Option (List (List ℕ × List ℕ)) → List ℕ → List ℕ → Type 0
Told None name bytes = ⊤
Told (Some docs) name bytes = held docs name ≡ Some bytes

-- the map is told and lacks the name
abbrev pub Lacks : Option (List (List ℕ × List ℕ)) → List ℕ → Type 0
Lacks None name = ⊥
Lacks (Some docs) name = held docs name ≡ None

-- where the map is told, its document of the name has at least `seen` bytes
abbrev pub Reaches : Option (List (List ℕ × List ℕ)) → List ℕ → ℕ → Type 0
Reaches None name seen = ⊤
Reaches (Some docs) name seen = IsSomeAnd (held docs name) (λ bytes. seen ≤ length bytes)

-- a count of 64 bits rose: it is greater, or it stands at its greatest value
abbrev pub Rose : ℕ → ℕ → Type 0
Rose old new = (old < new) ⊎ (new ≡ 2 ^ 64 - 1)

-- one more in a count of 64 bits, which stands still at its greatest value
abbrev pub raised : ℕ → ℕ
raised n = min (n + 1) (2 ^ 64 - 1)

-- why a fetch fails, by the map, the name, and the count of faults before and after
abbrev pub HasCause : Fetch → Option (List (List ℕ × List ℕ)) → List ℕ → ℕ → ℕ → Type 0
HasCause Failed docs name old new = Rose old new
HasCause Absent docs name old new = Lacks docs name × (new ≡ old)
HasCause (TooLong seen) docs name old new = (document_limit < seen) × Reaches docs name seen × (new ≡ old)
HasCause Memory docs name old new = new ≡ old
