-- The rows of pins by their names, as a row is written and as a pin comes or goes.

use Rattle.std.proofs.Common.{◌≡◌, ◌≢◌, ℕ, ◌≤◌, true, List, [], ◌∷◌, length, Option, None, Some, refl, sym, ap, subst, ◌∙◌, inl, inr, arith}
use Rattle.std.specs.Prelude.{nat_eq, option_and_then, is_some, slice_get, if◌then◌else◌}
use Rattle.std.specs.Str.{bytes_eq}
use Rattle.std.proofs.lemmas.Bool.{cases_Bool, cases_lt, lt-ltb, le-ltb}
use Rattle.std.proofs.lemmas.Bool.Decides.{eqb_tells}
use Rattle.std.proofs.lemmas.List.{length-append}
use Rattle.std.proofs.Math.ListN.{length-set}
use Rattle.netlist_store.specs.Numbering.{name_at, number_of, is_number, with_name, AreNumbers, AreKept}
use Rattle.netlist_store.specs.Drafts.{Follows, IsFilled, KeepsNames, row_named}
use Rattle.netlist_store.proofs.ShardLaws.{same_is}
use Rattle.netlist_store.proofs.NumberLaws.{number_at}
use Rattle.netlist_store.proofs.NumberEdits.{number_new, at_with}
use Rattle.netlist_store.proofs.ConnLaws.{some_of}
use Rattle.netlist_store.proofs.RcEdits.{same_number}

pub longer_with : (names : List (Option (List ℕ))) (m : ℕ) (name : List ℕ) → length names ≤ length (with_name names m name)
longer_with names m name = elim (cases_lt m (length names)) [
  | inl h ↦ rw (lt-ltb m (length names) h) (omega (arith, length-set {A = Option (List ℕ)} names m (Some name)))
  | inr h ↦ rw (le-ltb m (length names) h) (omega (arith, length-append {A = Option (List ℕ)} names (Some name ∷ [])))
]

module _ {X : Type 0} (rows after : List X) (m : ℕ) (row : X) (here : slice_get after m ≡ Some row)
    (kept : (n : ℕ) (r : X) → n ≢ m → slice_get rows n ≡ Some r → slice_get after n ≡ Some r) where
  read_kept : (names : List (Option (List ℕ))) → IsFilled names rows → (k : ℕ) → k ≢ m → is_number names k ≡ true → slice_get after k ≡ slice_get rows k
  read_kept names filled k apart there = let y = some_of (slice_get rows k) (filled k there) in kept k y.0 apart y.1 ∙ sym y.1

  -- a row is written
  module _ (names : List (Option (List ℕ))) (are : AreNumbers names) (filled : IsFilled names rows) (name : List ℕ) (known : number_of names name ≡ Some m) where
    pub row_changed : (q : List ℕ) → row_named names after q ≡ (if bytes_eq q name then Some row else row_named names rows q)
    row_changed q = by (number_of names q) refl
      where
        by : (o : Option ℕ) → number_of names q ≡ o
            → option_and_then (slice_get after) o ≡ (if bytes_eq q name then Some row else option_and_then (slice_get rows) o)
        by None e = elim (cases_Bool (bytes_eq q name)) [
          | inl h ↦ let f : number_of names q ≡ Some m = ap (number_of names) (same_is q name h) ∙ known in absurd (cc)
          | inr h ↦ rw h refl
        ]
        by (Some k) e =
            let stands : name_at names k ≡ Some q = number_at names q k e in
            let same : bytes_eq q name ≡ nat_eq m k = same_number names are name m known k q stands in
            elim (eqb_tells m k) [
              | inl h ↦ rw (same ∙ h.0) (ap (slice_get after) (sym h.1) ∙ here)
              | inr h ↦ rw (same ∙ h.0) (read_kept names filled k (λ e. h.1 (sym e)) (ap is_some stands))
            ]

    pub changed_filled : IsFilled names after
    changed_filled k there = elim (eqb_tells m k) [
      | inl h ↦ ap (λ j. is_some (slice_get after j)) (sym h.1) ∙ ap is_some here
      | inr h ↦ ap is_some (read_kept names filled k (λ e. h.1 (sym e)) there) ∙ filled k there
    ]

  -- a name comes with its row
  module _ (names made : List (Option (List ℕ))) (are : AreNumbers names) (still : AreNumbers made) (filled : IsFilled names rows) (name : List ℕ)
      (put : made ≡ with_name names m name) (gap : name_at names m ≡ None) (low : m ≤ length names) (new : number_of names name ≡ None) where
    stands_now : (k : ℕ) → name_at made k ≡ (if nat_eq m k then Some name else name_at names k)
    stands_now k = ap (λ ns. name_at ns k) put ∙ at_with names m name low k

    number_now : (q : List ℕ) → number_of made q ≡ (if bytes_eq q name then Some m else number_of names q)
    number_now = number_new names made are still m name stands_now gap

    pub row_added : (q : List ℕ) → row_named made after q ≡ (if bytes_eq q name then Some row else row_named names rows q)
    row_added q = elim (cases_Bool (bytes_eq q name)) [
      | inl h ↦ rw h (ap (option_and_then (slice_get after)) (number_now q ∙ ap (λ b. if b then Some m else number_of names q) h) ∙ here)
      | inr h ↦
          rw h (ap (option_and_then (slice_get after)) (number_now q ∙ ap (λ b. if b then Some m else number_of names q) h) ∙ by (number_of names q) refl)
    ]
      where
        by : (o : Option ℕ) → number_of names q ≡ o → option_and_then (slice_get after) o ≡ option_and_then (slice_get rows) o
        by None e = refl
        by (Some k) e =
            let stands : name_at names k ≡ Some q = number_at names q k e in
            read_kept names filled k (λ same. let f : name_at names k ≡ None = ap (name_at names) same ∙ gap in absurd (cc)) (ap is_some stands)

    pub names_kept : KeepsNames names made
    names_kept q n e = elim (cases_Bool (bytes_eq q name)) [
      | inl h ↦ let f : number_of names q ≡ None = ap (number_of names) (same_is q name h) ∙ new in absurd (cc)
      | inr h ↦ number_now q ∙ ap (λ b. if b then Some m else number_of names q) h ∙ e
    ]

    pub added_filled : IsFilled made after
    added_filled k there = elim (eqb_tells m k) [
      | inl h ↦ ap (λ j. is_some (slice_get after j)) (sym h.1) ∙ ap is_some here
      | inr h ↦
          let was : is_number names k ≡ true = sym (ap is_some (stands_now k ∙ ap (λ b. if b then Some name else name_at names k) h.0)) ∙ there in
          ap is_some (read_kept names filled k (λ e. h.1 (sym e)) was) ∙ filled k was
    ]

    pub added_follows : (base : List (Option (List ℕ))) → Follows base names → AreKept base made → Follows base made
    added_follows base follows kept = record {
      kept = kept;
      longer =
          let one = follows.longer in
          let two : length names ≤ length made = subst (λ ns. length names ≤ length ns) (sym put) (longer_with names m name) in
          omega arith;
    }
