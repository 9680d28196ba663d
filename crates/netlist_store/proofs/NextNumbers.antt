-- A numbering with one name after all others.

use Rattle.std.proofs.Common.{◌≡◌, ℕ, ◌-◌, ◌<◌, ◌≤◌, ◌^◌, cond, List, [], ◌∷◌, ◌++◌, map, length, Option, None, Some, sym, ap, subst, ◌∙◌, arith}
use Rattle.std.specs.Str.{bytes_eq}
use Rattle.std.proofs.lemmas.List.{map-append, length-map}
use Rattle.netlist_store.specs.declared.numberings.Slot.{Slot}
use Rattle.netlist_store.specs.declared.numberings.Slot.TheVariants.{Named}
use Rattle.netlist_store.specs.Numbering.{number_of, Agrees}
use Rattle.netlist_store.specs.Slots.{slot_name}
use Rattle.netlist_store.proofs.NumberLaws.{added, added_short, past_gap, slots_push}

module _ (number after : List ℕ → Option ℕ) (slots written : List Slot) (names : List (Option (List ℕ))) (n : ℕ) (name copy held : List ℕ)
    (a : Agrees number (map slot_name slots)) (short : length slots < 2 ^ 31) (view : map slot_name slots ≡ names)
    (new : number_of names name ≡ None) (last : n ≡ length names) (most : n < 2 ^ 31 - 1)
    (same : copy ≡ name) (e : (q : List ℕ) → after q ≡ cond (bytes_eq copy q) (Some n) (number q))
    (kept : held ≡ name) (put : written ≡ slots ++ Named held ∷ []) where
  high : length slots ≤ n
  high = let long : length names ≡ length slots = sym (ap length view) ∙ length-map slots slot_name in omega (arith, last)

  low : n ≤ length names
  low = omega (arith, last)

  within : n ≤ length (map slot_name slots)
  within = subst (λ (xs : List (Option (List ℕ))). n ≤ length xs) (sym view) low

  written_is : map slot_name written ≡ map slot_name (slots ++ Named name ∷ [])
  written_is = ap (map slot_name) (put ∙ ap (λ h. slots ++ Named h ∷ []) kept)

  pub next_agrees : Agrees after (map slot_name written)
  next_agrees =
      added number after slots written names n name copy a view new (past_gap names n last) low same e
      (written_is ∙ slots_push slots n name high)

  pub next_short : length written < 2 ^ 31
  next_short = added_short slots written n name (written_is ∙ slots_push slots n name high) within most short

  pub next_names : map slot_name written ≡ names ++ Some name ∷ []
  next_names = written_is ∙ map-append slot_name slots (Named name ∷ []) ∙ ap (λ xs. xs ++ Some name ∷ []) view
