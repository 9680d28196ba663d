-- Which pins are on a net, as pins come and go that are on none.

use Rattle.std.proofs.Common.{◌≡◌, ℕ, Bool, true, false, List, Option, None, Some, refl, sym, ap, ◌∙◌, inl, inr}
use Rattle.std.specs.Prelude.{option_and_then, is_some, slice_get}
use Rattle.std.specs.Option.{option_map_or}
use Rattle.std.proofs.lemmas.Bool.{cases_Bool, false≢true}
use Rattle.netlist_store.specs.declared.tables.PinRow.{PinRow}
use Rattle.netlist_store.specs.Numbering.{name_at, number_of, AreNumbers}
use Rattle.netlist_store.specs.Drafts.{row_named}
use Rattle.netlist_store.proofs.NumberLaws.{number_at, some_is}
use Rattle.netlist_store.proofs.ConnLaws.{some_of}
use Rattle.netlist_store.proofs.Sound.{on_row}

module _ (pins after : List (Option (List ℕ))) (are : AreNumbers pins) (still : AreNumbers after) (on now : List ℕ → Bool)
    (same : (q : List ℕ) → now q ≡ on q) (numbered : (q : List ℕ) → on q ≡ true → is_some (number_of pins q) ≡ true)
    (kept : (q : List ℕ) (n : ℕ) → on q ≡ true → number_of pins q ≡ Some n → number_of after q ≡ Some n) where
  was_there : (p : ℕ) (q : List ℕ) → name_at after p ≡ Some q → on q ≡ true → name_at pins p ≡ Some q
  was_there p q e h =
      let n = some_of (number_of pins q) (numbered q h) in
      let one : n.0 ≡ p = some_is (sym (kept q n.0 h n.1) ∙ still.distinct p q e) in
      ap (name_at pins) (sym one) ∙ number_at pins q n.0 n.1

  still_there : (p : ℕ) (q : List ℕ) → name_at pins p ≡ Some q → on q ≡ true → name_at after p ≡ Some q
  still_there p q e h = number_at after q p (kept q p h (are.distinct p q e))

  pub on_kept : (p : ℕ) → option_map_or now (name_at after p) false ≡ option_map_or on (name_at pins p) false
  on_kept p = by (name_at pins p) (name_at after p) refl refl
    where
      by : (o r : Option (List ℕ)) → name_at pins p ≡ o → name_at after p ≡ r → option_map_or now r false ≡ option_map_or on o false
      by None None e f = refl
      by None (Some q) e f = elim (cases_Bool (on q)) [
        | inl h ↦ let g : name_at pins p ≡ Some q = was_there p q f h in absurd (cc)
        | inr h ↦ same q ∙ h
      ]
      by (Some q) None e f = elim (cases_Bool (on q)) [
        | inl h ↦ let g : name_at after p ≡ Some q = still_there p q e h in absurd (cc)
        | inr h ↦ sym h
      ]
      by (Some q) (Some r) e f = elim (cases_Bool (on q)) [
        | inl h ↦ same r ∙ ap on (some_is (sym f ∙ still_there p q e h))
        | inr h ↦ elim (cases_Bool (on r)) [
          | inl k ↦ absurd (false≢true (sym h ∙ ap on (some_is (sym e ∙ was_there p r f k)) ∙ k))
          | inr k ↦ same r ∙ k ∙ sym h
        ]
      ]

-- by the rows of pins
on_by_name : (k : ℕ) (row : List ℕ → Option PinRow) (o : Option (List ℕ)) → on_row k (option_and_then row o) ≡ option_map_or (λ q. on_row k (row q)) o false
on_by_name k row None = refl
on_by_name k row (Some q) = refl

pub rows_kept : (pins after : List (Option (List ℕ))) (are : AreNumbers pins) (still : AreNumbers after) (k : ℕ) (row now : List ℕ → Option PinRow)
    → ((q : List ℕ) → on_row k (now q) ≡ on_row k (row q)) → ((q : List ℕ) → on_row k (row q) ≡ true → is_some (number_of pins q) ≡ true)
    → ((q : List ℕ) (n : ℕ) → on_row k (row q) ≡ true → number_of pins q ≡ Some n → number_of after q ≡ Some n)
    → (p : ℕ) → on_row k (option_and_then now (name_at after p)) ≡ on_row k (option_and_then row (name_at pins p))
rows_kept pins after are still k row now same numbered kept p =
    on_by_name k now (name_at after p)
    ∙ on_kept pins after are still (λ q. on_row k (row q)) (λ q. on_row k (now q)) same numbered kept p
    ∙ sym (on_by_name k row (name_at pins p))

-- a pin that is on a net has a number
pub on_numbered : (pins : List (Option (List ℕ))) (rows : List PinRow) (k : ℕ) (row : List ℕ → Option PinRow)
    → ((q : List ℕ) → row_named pins rows q ≡ row q) → (q : List ℕ) → on_row k (row q) ≡ true → is_some (number_of pins q) ≡ true
on_numbered pins rows k row told q on = by (number_of pins q) (ap (on_row k) (told q) ∙ on)
  where
    by : (o : Option ℕ) → on_row k (option_and_then (slice_get rows) o) ≡ true → is_some o ≡ true
    by None h = absurd (false≢true h)
    by (Some n) h = refl
