-- Names that stand in a list, and the numbers of names.
use Rattle.std.specs.Prelude.{ℕ, List, [], ◌∷◌, Bool, map, Option, Some, None, if◌then◌else◌}
use denote.Ref.{Bor}
use Rattle.std.specs.List.{list_any}
use Rattle.std.specs.Str.{bytes_eq}

-- the bytes that references point to
abbrev pub texts : List (Bor (List ℕ)) → List (List ℕ)
texts found = map (λ (t : Bor (List ℕ)). t.now) found

-- the name is one of these
abbrev pub stands : List (List ℕ) → List ℕ → Bool
stands names name = list_any (bytes_eq name) names

-- the pairs whose names references point to
abbrev pub pairs : List (Bor (List ℕ) × ℕ) → List (List ℕ × ℕ)
pairs found = map (λ (e : Bor (List ℕ) × ℕ). (e.0.now, e.1)) found

-- the number that stands beside the name's first place
abbrev pub said : List (List ℕ × ℕ) → List ℕ → Option ℕ
said [] name = None
said (pair ∷ pairs) name = (if bytes_eq name pair.0 then Some pair.1 else said pairs name)
