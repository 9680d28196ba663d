-- The numbers of an instance's pins, found by the pins' names in the cell.

use Rattle.std.proofs.Common.{◌≡◌, ℕ, ◌<◌, List, [], ◌∷◌, length, get_or, Option, None, Some, sym, ap, ◌∙◌, arith}
use Rattle.std.specs.List.{position}
use Rattle.std.specs.Str.{bytes_eq}
use Rattle.std.proofs.lemmas.List.{length-map, get_or-map}
use Rattle.std.proofs.lemmas.List.Quantifiers.{position-Some}
use Rattle.timing_defs.specs.declared.library.CellPin.{CellPin}
use Rattle.timing_defs.specs.declared.netlist.Inst.{Inst}
use Rattle.netlist_store.specs.Numbering.{Stored}
use Rattle.pin_graph.specs.Joins.{own_number, own_numbers}
use Rattle.timing_defs.proofs.SameNames.{same_is}

-- what is known at the place of a pin of that name
module _ (s : Stored) (inst : Inst) where
  pub own_low : (pins : List CellPin) (numbers : List (Option ℕ)) (own : List ℕ) (place : ℕ) → numbers ≡ own_numbers s inst pins
      → Some place ≡ position (λ p. bytes_eq p.name own) pins → place < length numbers
  own_low [] numbers own place e p = absurd (cc)
  own_low (pin ∷ pins) numbers own place e p =
      let at = position-Some (λ (q : CellPin). bytes_eq q.name own) (pin ∷ pins) place pin (sym p) in
      omega (arith, at.0, ap length e, length-map (pin ∷ pins) (λ (q : CellPin). own_number s inst q.name))

  pub own_is : (pins : List CellPin) (numbers : List (Option ℕ)) (own : List ℕ) (place : ℕ) → numbers ≡ own_numbers s inst pins
      → Some place ≡ position (λ p. bytes_eq p.name own) pins → get_or numbers place None ≡ own_number s inst own
  own_is [] numbers own place e p = absurd (cc)
  own_is (pin ∷ pins) numbers own place e p =
      let at = position-Some (λ (q : CellPin). bytes_eq q.name own) (pin ∷ pins) place pin (sym p) in
      ap (λ ns. get_or ns place None) e
      ∙ get_or-map (λ (q : CellPin). own_number s inst q.name) (pin ∷ pins) place pin None at.0
      ∙ ap (own_number s inst) (same_is (get_or (pin ∷ pins) place pin).name own at.1)
