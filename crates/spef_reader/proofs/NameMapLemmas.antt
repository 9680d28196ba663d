-- The rows of a map, seen as words.
use Rattle.std.proofs.Common.{◌≡◌, ℕ, List, [], ◌∷◌, Bool, true, false, Option, Some, None, MatchOption, cond, refl, ap, sym, subst, ◌∙◌}
use Rattle.std.specs.Prelude.{option_copied}
use Rattle.std.specs.Str.{bytes_eq}
use Rattle.std.proofs.lemmas.Slice.Eq.{bytes_eq-Decides}
use denote.Ref.{Bor}
use Rattle.std.specs.Map.{lookup}
use Rattle.indexmap.specs.IndexMap.{insert_entry}
use Rattle.spef_reader.specs.declared.context.Bus.{Bus}
use Rattle.spef_reader.specs.Names.{told, with_row, rows_at}
use Rattle.spef_reader.specs.Words.{spelled}

abbrev pub Spelt : Type 0
Spelt = Bus × List ℕ

abbrev Row : Type 0
Row = Bor (List ℕ) × Spelt

abbrev key_eq : Bor (List ℕ) → Bor (List ℕ) → Bool
key_eq a b = bytes_eq a.now b.now

abbrev at_key : (b : Bool) (e : Row) (v : Spelt) (es more : List Row) (rest : List (List ℕ × List ℕ))
    → rows_at more ≡ rest → rows_at (cond b ((e.0, v) ∷ es) (e ∷ more)) ≡ cond b ((e.0.now, v.1) ∷ rows_at es) ((e.0.now, e.1.1) ∷ rest)
at_key true e v es more rest h = refl
at_key false e v es more rest h = ap (λ rows. (e.0.now, e.1.1) ∷ rows) h

-- a row that is set stands in the place of the one before
pub rows_set : (es : List Row) (k : Bor (List ℕ)) (v : Spelt) → rows_at (insert_entry key_eq es k v) ≡ with_row (rows_at es) k.now v.1
unfolding with_row
rows_set [] k v = refl
rows_set (e ∷ es) k v = at_key (bytes_eq k.now e.0.now) e v es (insert_entry key_eq es k v) (with_row (rows_at es) k.now v.1) (rows_set es k v)

abbrev Finds : Option Spelt → Option (List ℕ) → Type 0
Finds found wanted = MatchOption found (wanted ≡ None) (λ spelt. wanted ≡ Some spelt.1)

both : (b : Bool) (v : Spelt) (found : Option Spelt) (wanted : Option (List ℕ))
    → Finds found wanted → Finds (cond b (Some v) found) (cond b (Some v.1) wanted)
both true v found wanted h = refl
both false v found wanted h = h

-- a word is found beside the index
told_rows : (es : List Row) (index : List ℕ) → Finds (lookup (λ (k : Bor (List ℕ)). bytes_eq index k.now) es) (told (rows_at es) index)
unfolding told
told_rows [] index = refl
told_rows (e ∷ es) index = both (bytes_eq index e.0.now) e.1 (lookup (λ (k : Bor (List ℕ)). bytes_eq index k.now) es) (told (rows_at es) index) (told_rows es index)

-- the spelling that is found is that of the word
pub found_rows : (es : List Row) (index : List ℕ) (found : Option (Bor Spelt)) → option_copied found ≡ lookup (λ (k : Bor (List ℕ)). bytes_eq index k.now) es → MatchOption found (told (rows_at es) index ≡ None) (λ spelt. told (rows_at es) index ≡ Some spelt.now.1)
found_rows es index found h = by found (subst (λ (x : Option Spelt). Finds x (told (rows_at es) index)) (sym h) (told_rows es index))
  where
    by : (found : Option (Bor Spelt)) → Finds (option_copied found) (told (rows_at es) index) → MatchOption found (told (rows_at es) index ≡ None) (λ spelt. told (rows_at es) index ≡ Some spelt.now.1)
    by None e = e
    by (Some spelt) e = e

-- a row of this index has its word
pub told_there : (es : List Row) (k : Bor (List ℕ)) (v : Spelt) (index : List ℕ) → lookup (λ (q : Bor (List ℕ)). bytes_eq k.now q.now) es ≡ Some v → bytes_eq k.now index ≡ true → told (rows_at es) index ≡ Some v.1
told_there es k v index h same =
    let found = subst (λ found. Finds found (told (rows_at es) k.now)) h (told_rows es k.now) in
    ap (told (rows_at es)) (sym ((bytes_eq-Decides k.now index).0 same)) ∙ found

-- a word is spelled alike with the same marks
pub spelled_same : (bus other : Bus) (word name : List ℕ) → bus.opening ≡ other.opening → bus.closing ≡ other.closing → name ≡ spelled bus false word → name ≡ spelled other false word
spelled_same bus other word name e f h = marks bus.opening bus.closing other.opening other.closing e f h
  where
    marks : (a b c d : Option ℕ) → a ≡ c → b ≡ d → name ≡ spelled (record { opening = a; closing = b }) false word → name ≡ spelled (record { opening = c; closing = d }) false word
    marks a b c d e f h = cc
