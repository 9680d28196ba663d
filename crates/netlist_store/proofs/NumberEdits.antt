-- The numbers of names, as a name comes or goes.

use Rattle.std.proofs.Common.{◌≡◌, ℕ, ◌<◌, ◌≤◌, false, List, length, set, Option, None, Some, refl, sym, ap, ◌∙◌, inl, inr}
use Rattle.std.specs.Prelude.{nat_eq, if◌then◌else◌}
use Rattle.std.specs.Str.{bytes_eq}
use Rattle.std.proofs.lemmas.Bool.{cases_Bool, true≢false, eq-eqb}
use Rattle.std.proofs.lemmas.Bool.Decides.{eqb_tells}
use Rattle.netlist_store.specs.Numbering.{name_at, number_of, with_name, AreNumbers}
use Rattle.netlist_store.proofs.ShardLaws.{same_is, same_self}
use Rattle.netlist_store.proofs.NumberLaws.{number_at, some_is, set_same, set_other, with_same, with_other}

module _ (names after : List (Option (List ℕ))) (are : AreNumbers names) (still : AreNumbers after) (m : ℕ) (name : List ℕ) where
  pub number_new : ((k : ℕ) → name_at after k ≡ (if nat_eq m k then Some name else name_at names k)) → name_at names m ≡ None
      → (q : List ℕ) → number_of after q ≡ (if bytes_eq q name then Some m else number_of names q)
  number_new new gap q = elim (cases_Bool (bytes_eq q name)) [
    | inl e ↦
        let here : name_at after m ≡ Some q =
        new m ∙ ap (λ b. if b then Some name else name_at names m) (eq-eqb m m refl) ∙ ap Some (sym (same_is q name e)) in
        rw e (still.distinct m q here)
    | inr e ↦ rw e (by (number_of names q) (number_of after q) refl refl e)
  ]
    where
      by : (o r : Option ℕ) → number_of names q ≡ o → number_of after q ≡ r → bytes_eq q name ≡ false → number_of after q ≡ number_of names q
      by (Some k) r e f apart =
          let stands : name_at names k ≡ Some q = number_at names q k e in
          let other : nat_eq m k ≡ false = elim (eqb_tells m k) [ inl h ↦ let g : name_at names k ≡ None = ap (name_at names) (sym h.1) ∙ gap in absurd (cc) | inr h ↦ h.0 ] in
          still.distinct k q (new k ∙ ap (λ b. if b then Some name else name_at names k) other ∙ stands) ∙ sym e
      by None None e f apart = f ∙ sym e
      by None (Some k) e f apart =
          let stands : name_at after k ≡ Some q = number_at after q k f in
          elim (eqb_tells m k) [
            | inl h ↦
                let g : name ≡ q = some_is (ap (λ b. if b then Some name else name_at names k) (sym h.0) ∙ sym (new k) ∙ stands) in
                absurd (true≢false (sym (same_self q) ∙ ap (bytes_eq q) (sym g) ∙ apart))
            | inr h ↦
                let g : number_of names q ≡ Some k = are.distinct k q (ap (λ b. if b then Some name else name_at names k) (sym h.0) ∙ sym (new k) ∙ stands) in
                absurd (cc)
          ]

  pub number_gone : ((k : ℕ) → name_at after k ≡ (if nat_eq m k then None else name_at names k)) → name_at names m ≡ Some name
      → (q : List ℕ) → number_of after q ≡ (if bytes_eq q name then None else number_of names q)
  number_gone gone here q = elim (cases_Bool (bytes_eq q name)) [
    | inl e ↦ rw e (none (number_of after q) refl (same_is q name e))
    | inr e ↦ rw e (by (number_of names q) (number_of after q) refl refl e)
  ]
    where
      none : (r : Option ℕ) → number_of after q ≡ r → q ≡ name → number_of after q ≡ None
      none None f same = f
      none (Some k) f same =
          let stands : name_at after k ≡ Some q = number_at after q k f in
          elim (eqb_tells m k) [
            | inl h ↦ let g : None ≡ Some q = ap (λ b. if b then None else name_at names k) (sym h.0) ∙ sym (gone k) ∙ stands in absurd (cc)
            | inr h ↦
                let g : number_of names q ≡ Some k = are.distinct k q (ap (λ b. if b then None else name_at names k) (sym h.0) ∙ sym (gone k) ∙ stands) in
                let f2 : number_of names q ≡ Some m = are.distinct m q (here ∙ ap Some (sym same)) in
                absurd (h.1 (some_is (sym f2 ∙ g)))
          ]

      by : (o r : Option ℕ) → number_of names q ≡ o → number_of after q ≡ r → bytes_eq q name ≡ false → number_of after q ≡ number_of names q
      by (Some k) r e f apart =
          let stands : name_at names k ≡ Some q = number_at names q k e in
          let other : nat_eq m k ≡ false = elim (eqb_tells m k) [
            | inl h ↦
                let g : name ≡ q = some_is (sym here ∙ ap (name_at names) h.1 ∙ stands) in
                absurd (true≢false (sym (same_self q) ∙ ap (bytes_eq q) (sym g) ∙ apart))
            | inr h ↦ h.0
          ] in
          still.distinct k q (gone k ∙ ap (λ b. if b then None else name_at names k) other ∙ stands) ∙ sym e
      by None None e f apart = f ∙ sym e
      by None (Some k) e f apart =
          let stands : name_at after k ≡ Some q = number_at after q k f in
          elim (eqb_tells m k) [
            | inl h ↦ let g : None ≡ Some q = ap (λ b. if b then None else name_at names k) (sym h.0) ∙ sym (gone k) ∙ stands in absurd (cc)
            | inr h ↦
                let g : number_of names q ≡ Some k = are.distinct k q (ap (λ b. if b then None else name_at names k) (sym h.0) ∙ sym (gone k) ∙ stands) in
                absurd (cc)
          ]

-- what stands at each number, as names are written
pub at_with : (names : List (Option (List ℕ))) (m : ℕ) (name : List ℕ) → m ≤ length names
    → (k : ℕ) → name_at (with_name names m name) k ≡ (if nat_eq m k then Some name else name_at names k)
at_with names m name low k = elim (eqb_tells m k) [
  | inl h ↦ rw h.0 (ap (name_at (with_name names m name)) (sym h.1) ∙ with_same names m name low)
  | inr h ↦ rw h.0 (with_other names m k name low (λ e. h.1 (sym e)))
]

pub at_gone : (names : List (Option (List ℕ))) (m : ℕ) → m < length names
    → (k : ℕ) → name_at (set names m None) k ≡ (if nat_eq m k then None else name_at names k)
at_gone names m low k = elim (eqb_tells m k) [
  | inl h ↦ rw h.0 (ap (name_at (set names m None)) (sym h.1) ∙ set_same names m None low)
  | inr h ↦ rw h.0 (set_other names m k None (λ e. h.1 (sym e)))
]
