-- The pins of touched instances hold all that an ECO takes out of a design.

use Rattle.std.proofs.Common.{◌≡◌, ℕ, Bool, true, false, not, List, [], ◌∷◌, Option, None, Some, refl, sym, ap, ◌∙◌, inl, inr}
use Rattle.std.specs.Prelude.{nat_eq, is_some, IfOk, Result, Ok, Err, ◌&&◌, ◌||◌, option_map, option_and_then}
use Rattle.std.specs.List.{list_any, filter_map}
use Rattle.std.specs.Option.{option_map_or}
use Rattle.std.proofs.lemmas.Bool.{cases_Bool, cases_eq, eq-eqb, ne_eqb, true≢false}
use Rattle.sta_units.specs.declared.units.Memory.{Memory}
use Rattle.timing_defs.specs.declared.netlist.Inst.{Inst}
use Rattle.timing_defs.specs.Netlist.{Pin, pin_named, is_listed}
use Rattle.timing_defs.specs.Touches.{Touch}
use Rattle.netlist_store.specs.Linked.{IsLinked}
use Rattle.netlist_store.specs.Numbering.{Stored, name_at, is_number, pin_numbered, IsNumbered}
use Rattle.netlist_store.specs.Applying.{IsEditOf}
use Rattle.eco_laws.specs.Kept.{is_on_any, has_touched_inst}
use Rattle.eco_laws.proofs.Numbers.{alike_after}
use Rattle.pin_graph.specs.Seeds.{is_owned_at, gone_at}
use Rattle.store_pins.proofs.PinLaws.{pin_at_number}

and_false : (a : Bool) → (a && false) ≡ false
and_false true = refl
and_false false = refl

and_true : (a : Bool) → (a && true) ≡ a
and_true true = refl
and_true false = refl

any_gone : (s : Stored) (xs : List ℕ) (k : ℕ) → list_any (nat_eq k) (filter_map (gone_at s) xs) ≡ (list_any (nat_eq k) xs && not (is_number s.pins k))
any_gone s [] k = refl
any_gone s (x ∷ xs) k = elim (cases_Bool (is_number s.pins x)) [
  | inl e ↦ rw e (elim (cases_eq k x) [
    | inl same ↦
        rw (eq-eqb k x same)
        (any_gone s xs k ∙ ap (λ b. list_any (nat_eq k) xs && not b) (ap (is_number s.pins) same ∙ e) ∙ and_false (list_any (nat_eq k) xs)
        ∙ sym (ap not (ap (is_number s.pins) same ∙ e)))
    | inr other ↦ rw (ne_eqb k x other) (any_gone s xs k)
  ])
  | inr e ↦ rw e (elim (cases_eq k x) [
    | inl same ↦ rw (eq-eqb k x same) (sym (ap not (ap (is_number s.pins) same ∙ e)))
    | inr other ↦ rw (ne_eqb k x other) (any_gone s xs k)
  ])
]

pub number_of_pin : (s : Stored) (k : ℕ) (p : Pin) → pin_numbered s k ≡ Some p → is_number s.pins k ≡ true
number_of_pin s k p e = by (name_at s.pins k) e
  where
    by : (o : Option (List ℕ)) → option_and_then (pin_named s.design) o ≡ Some p → is_some o ≡ true
    by None h = absurd (cc)
    by (Some n) h = refl

owner_told : (touch : Touch) (o : Option Inst) → is_on_any touch.insts (option_map (λ (inst : Inst). inst.name) o) ≡ option_map_or (λ (inst : Inst). is_listed touch.insts inst.name) o false
owner_told touch None = refl
owner_told touch (Some inst) = refl

module _ (s : Stored) (touch : Touch) (s2 : Stored) (made : IsEditOf s touch s2) (num : IsNumbered s) (num2 : IsNumbered s2) (linked : IsLinked s.design) where
  owned_is : (k : ℕ) → is_number s2.pins k ≡ false → is_owned_at s touch.insts k ≡ is_number s.pins k
  owned_is k gone = by (pin_numbered s k) refl
    where
      by : (o : Option Pin) → pin_numbered s k ≡ o → is_owned_at s touch.insts k ≡ is_number s.pins k
      by None e = elim (cases_Bool (is_number s.pins k)) [
        | inl h ↦ let p = pin_at_number s num linked k h in let bad : None ≡ Some p.0 = sym e ∙ p.1.pin in absurd (cc)
        | inr h ↦ ap (λ o. option_map_or (λ (p : Pin). is_on_any touch.insts (option_map (λ (inst : Inst). inst.name) p.owner)) o false) e ∙ sym h
      ]
      by (Some p) e = elim (cases_Bool (has_touched_inst touch p)) [
        | inl h ↦
            ap (λ o. option_map_or (λ (q : Pin). is_on_any touch.insts (option_map (λ (inst : Inst). inst.name) q.owner)) o false) e
            ∙ owner_told touch p.owner ∙ h ∙ sym (number_of_pin s k p e)
        | inr h ↦
            let a = alike_after s touch s2 made num num2 k p e h in
            absurd (true≢false (sym (number_of_pin s2 k a.pin2 a.numbered) ∙ gone))
      ]

  pub gone_are : (pins gone : List ℕ) → ((k : ℕ) → list_any (nat_eq k) pins ≡ is_owned_at s touch.insts k) → gone ≡ filter_map (gone_at s2) pins
      → (k : ℕ) → list_any (nat_eq k) gone ≡ (is_number s.pins k && not (is_number s2.pins k))
  gone_are pins gone all is k =
      ap (list_any (nat_eq k)) is ∙ any_gone s2 pins k ∙ ap (λ b. b && not (is_number s2.pins k)) (all k)
      ∙ elim (cases_Bool (is_number s2.pins k)) [
        | inl e ↦ rw e (and_false (is_owned_at s touch.insts k) ∙ sym (and_false (is_number s.pins k)))
        | inr e ↦ rw e (and_true (is_owned_at s touch.insts k) ∙ owned_is k e ∙ sym (and_true (is_number s.pins k)))
      ]

pub gone_ok : (s s2 : Stored) (touch : Touch) → IsEditOf s touch s2 → IsNumbered s → IsNumbered s2 → IsLinked s.design → (start pins : List ℕ) (r : Result (List ℕ) Memory)
    → start ≡ [] → ((k : ℕ) → list_any (nat_eq k) pins ≡ (list_any (nat_eq k) start || is_owned_at s touch.insts k)) → IfOk r (λ gone. gone ≡ filter_map (gone_at s2) pins)
    → IfOk r (λ gone. (k : ℕ) → list_any (nat_eq k) gone ≡ (is_number s.pins k && not (is_number s2.pins k)))
gone_ok s s2 touch made num num2 linked start pins (Ok gone) empty all is = λ k.
    gone_are s touch s2 made num num2 linked pins gone (λ j. all j ∙ ap (λ xs. list_any (nat_eq j) xs || is_owned_at s touch.insts j) empty) is k
gone_ok s s2 touch made num num2 linked start pins (Err wanting) empty all is = tt
