-- The places of cells, as a table of them grows.

use Rattle.std.proofs.Common.{◌≡◌, ℕ, ◌+◌, ◌<◌, ◌≤◌, Bool, true, false, List, [], ◌∷◌, ◌++◌, length, get_or, take, Option, None, Some, refl, sym, ap, ◌∙◌, arith, if◌then◌else◌}
use Rattle.std.specs.Prelude.{option_and_then}
use Rattle.std.specs.List.{slice_get}
use Rattle.std.specs.Option.{option_or}
use Rattle.std.specs.Str.{bytes_eq}
use Rattle.std.proofs.lemmas.List.{take_more, take_all}
use Rattle.std.proofs.lemmas.List.Folds.{find-append}
use Rattle.std.proofs.lemmas.Option.{slice_get-get_or}
use Rattle.timing_defs.specs.declared.library.Cell.{Cell}
use Rattle.timing_defs.specs.Netlist.{cell_named}
use Rattle.netlist_store.specs.Places.{place_under, ArePlaces}

-- the places of the first `n` cells
pub record ArePlacesOf (cells : List Cell) (n : ℕ) (places : List (List ℕ × ℕ)) : Type 0 where
  pub lead : (name : List ℕ) → option_and_then (slice_get cells) (place_under places name) ≡ cell_named (take n cells) name
  pub within : (name : List ℕ) (p : ℕ) → place_under places name ≡ Some p → p < n

pub no_places : (cells : List Cell) (places : List (List ℕ × ℕ)) → places ≡ [] → ArePlacesOf cells 0 places
no_places cells places e = record {
  lead = λ name. ap (λ ps. option_and_then (slice_get cells) (place_under ps name)) e;
  within = λ name p h. let f : place_under places name ≡ None = ap (λ ps. place_under ps name) e in absurd (cc);
}

-- one cell more
pub more_places : (cells : List Cell) (n : ℕ) (cell : Cell) (before after : List (List ℕ × ℕ)) → n < length cells → cell ≡ get_or cells n cell
    → ((name : List ℕ) → place_under after name ≡ option_or (place_under before name) (if bytes_eq cell.name name then Some n else None))
    → ArePlacesOf cells n before → ArePlacesOf cells (n + 1) after
more_places cells n cell before after low here put had = record {
  lead = λ name. by name (place_under before name) refl;
  within = λ name p h. low_at name p (place_under before name) refl h;
}
  where
    either : (name : List ℕ) (b : Bool) (p : ℕ) → (if b then Some n else None) ≡ Some p → p < n + 1
    either name true p h = let e : n ≡ p = inner h in omega arith
      where
        inner : Some n ≡ Some p → n ≡ p
        inner f = cc
    either name false p h = absurd (cc)

    low_at : (name : List ℕ) (p : ℕ) (o : Option ℕ) → place_under before name ≡ o → place_under after name ≡ Some p → p < n + 1
    low_at name p None e h =
        either name (bytes_eq cell.name name) p (sym (put name ∙ ap (λ o. option_or o (if bytes_eq cell.name name then Some n else None)) e) ∙ h)
    low_at name p (Some q) e h =
        let same : Some q ≡ Some p = sym (put name ∙ ap (λ o. option_or o (if bytes_eq cell.name name then Some n else None)) e) ∙ h in
        let low' : p < n = had.within name p (e ∙ same) in
        omega arith

    at : slice_get cells n ≡ Some cell
    at = slice_get-get_or cells n cell low ∙ ap Some (sym here)

    grown : (name : List ℕ) → cell_named (take (n + 1) cells) name ≡ option_or (cell_named (take n cells) name) (cell_named (cell ∷ []) name)
    grown name =
        ap (λ cs. cell_named cs name) (take_more cells n cell low ∙ ap (λ c. take n cells ++ c ∷ []) (sym here))
        ∙ find-append (λ c. bytes_eq c.name name) (take n cells) (cell ∷ [])

    this : (name : List ℕ) (b : Bool) → bytes_eq cell.name name ≡ b
        → option_and_then (slice_get cells) (if b then Some n else None) ≡ (if b then Some cell else None)
    this name true e = at
    this name false e = refl

    one : (name : List ℕ) (b : Bool) → bytes_eq cell.name name ≡ b → cell_named (cell ∷ []) name ≡ (if b then Some cell else None)
    one name true e = rw e refl
    one name false e = rw e refl

    by : (name : List ℕ) (o : Option ℕ) → place_under before name ≡ o → option_and_then (slice_get cells) (place_under after name) ≡ cell_named (take (n + 1) cells) name
    by name None e =
        let was : None ≡ cell_named (take n cells) name = ap (option_and_then (slice_get cells)) (sym e) ∙ had.lead name in
        ap (option_and_then (slice_get cells)) (put name ∙ ap (λ o. option_or o (if bytes_eq cell.name name then Some n else None)) e)
        ∙ this name (bytes_eq cell.name name) refl ∙ sym (one name (bytes_eq cell.name name) refl)
        ∙ ap (λ o. option_or o (cell_named (cell ∷ []) name)) was ∙ sym (grown name)
    by name (Some p) e = found (cell_named (take n cells) name) refl
      where
        was : slice_get cells p ≡ cell_named (take n cells) name
        was = ap (option_and_then (slice_get cells)) (sym e) ∙ had.lead name

        kept : option_and_then (slice_get cells) (place_under after name) ≡ slice_get cells p
        kept = ap (option_and_then (slice_get cells)) (put name ∙ ap (λ o. option_or o (if bytes_eq cell.name name then Some n else None)) e)

        found : (o : Option Cell) → cell_named (take n cells) name ≡ o → option_and_then (slice_get cells) (place_under after name) ≡ cell_named (take (n + 1) cells) name
        found None h =
            let inside : p < n = had.within name p e in
            let some : slice_get cells p ≡ Some (get_or cells p cell) = slice_get-get_or cells p cell (omega arith) in
            let none : slice_get cells p ≡ None = was ∙ h in
            absurd (cc)
        found (Some c) h = kept ∙ was ∙ h ∙ sym (grown name ∙ ap (λ o. option_or o (cell_named (cell ∷ []) name)) h)

pub all_places : (cells : List Cell) (n : ℕ) (places : List (List ℕ × ℕ)) → length cells ≤ n → ArePlacesOf cells n places → ArePlaces cells places
all_places cells n places all had name = had.lead name ∙ ap (λ cs. cell_named cs name) (take_all n cells all)
