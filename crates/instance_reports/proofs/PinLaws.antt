-- The rows of the pins of an instance are all that there are.

use Rattle.std.proofs.Common.{◌≡◌, ℕ, Bool, true, false, not, List, [], ◌∷◌, ◌++◌, map, Option, Some, refl, sym, ap, subst, ◌∙◌}
use Rattle.std.specs.Prelude.{Contains}
use Rattle.std.specs.Str.{bytes_eq}
use Rattle.std.proofs.lemmas.Bool.{false≢true, and_parts, and_from, or_parts, or_from, not-true, not_from_false}
use Rattle.timing_defs.specs.declared.kinds.Split.TheVariants.{Late}
use Rattle.timing_defs.specs.declared.library.Cell.{Cell}
use Rattle.timing_defs.specs.declared.library.CellPin.{CellPin}
use Rattle.timing_defs.specs.declared.netlist.Inst.{Inst}
use Rattle.timing_defs.specs.declared.closing.PinReport.{PinReport}
use Rattle.timing_defs.specs.declared.design.Design.{Design}
use Rattle.timing_defs.specs.Firsts.{AreAll}
use Rattle.timing_defs.specs.Netlist.{Pin, cell_of, cell_pin, cell_pins, inst_pins, is_listed, are_distinct}
use Rattle.timing_defs.proofs.SameNames.{same_is, same_self}
use Rattle.timing_defs.proofs.Members.{in_map, in_map_back}
use Rattle.timing_rules.specs.Connections.{pin_report, pin_before, IsPinOf}
use Rattle.netlist_store.specs.Linked.{IsLinked}
use Rattle.instance_reports.specs.Orders.{AreInOrder}
use Rattle.instance_reports.proofs.OrderLaws.{all_in_order}
use Rattle.instance_reports.proofs.CellLaws.{its_pins_apart}

-- names behind the same beginning differ as the names do
own_after : (a x y : List ℕ) → a ++ 58 ∷ x ≡ a ++ 58 ∷ y → x ≡ y
own_after [] x y e = cc
own_after (z ∷ b) x y e = own_after b x y (tails e)
  where
    tails : z ∷ (b ++ 58 ∷ x) ≡ z ∷ (b ++ 58 ∷ y) → b ++ 58 ∷ x ≡ b ++ 58 ∷ y
    tails f = cc

module _ (inst : Inst) where
  lone : (p : CellPin) (ps : List CellPin) → is_listed (map (λ (q : CellPin). q.name) ps) p.name ≡ false
      → is_listed (map (λ (r : PinReport). r.pin) (map (λ q. pin_report inst (cell_pin inst q)) ps)) (inst.name ++ 58 ∷ p.name) ≡ false
  lone p [] h = refl
  lone p (q ∷ qs) h =
      let parts = or_parts (bytes_eq p.name q.name) (is_listed (map (λ (s : CellPin). s.name) qs) p.name) h in
      or_from (bytes_eq (inst.name ++ 58 ∷ p.name) (inst.name ++ 58 ∷ q.name)) _ (other (bytes_eq (inst.name ++ 58 ∷ p.name) (inst.name ++ 58 ∷ q.name)) refl parts.0)
      (lone p qs parts.1)
    where
      other : (b : Bool) → bytes_eq (inst.name ++ 58 ∷ p.name) (inst.name ++ 58 ∷ q.name) ≡ b → bytes_eq p.name q.name ≡ false
          → bytes_eq (inst.name ++ 58 ∷ p.name) (inst.name ++ 58 ∷ q.name) ≡ false
      other false e f = e
      other true e f =
          let same : p.name ≡ q.name = own_after inst.name p.name q.name (same_is (inst.name ++ 58 ∷ p.name) (inst.name ++ 58 ∷ q.name) e) in
          absurd (false≢true (sym f ∙ ap (bytes_eq p.name) (sym same) ∙ same_self p.name))

  rows_distinct : (ps : List CellPin) → are_distinct (map (λ (q : CellPin). q.name) ps) ≡ true
      → are_distinct (map (λ (r : PinReport). r.pin) (map (λ q. pin_report inst (cell_pin inst q)) ps)) ≡ true
  rows_distinct [] h = refl
  rows_distinct (p ∷ ps) h =
      let parts = and_parts (not (is_listed (map (λ (q : CellPin). q.name) ps) p.name)) (are_distinct (map (λ (q : CellPin). q.name) ps)) h in
      and_from (not (is_listed (map (λ (r : PinReport). r.pin) (map (λ q. pin_report inst (cell_pin inst q)) ps)) (inst.name ++ 58 ∷ p.name))) _
      (not_from_false _ (lone p ps (not-true (is_listed (map (λ (q : CellPin). q.name) ps) p.name) parts.0)))
      (rows_distinct ps parts.1)

  -- the rows of the pins of an instance's cell, by name
  pub pins_told : (d : Design) (cell : Cell) (rows sorted : List PinReport) → IsLinked d → cell_of d Late inst ≡ Some cell
      → rows ≡ map (λ q. pin_report inst (cell_pin inst q)) cell.pins → AreInOrder (λ r. r.pin) rows sorted
      → AreAll pin_before (IsPinOf d inst) sorted
  pins_told d cell rows sorted linked has told order =
      all_in_order (λ r. r.pin) (IsPinOf d inst) rows sorted order
      (ap (λ (rs : List PinReport). are_distinct (map (λ (r : PinReport). r.pin) rs)) told
      ∙ rows_distinct cell.pins (its_pins_apart d linked inst cell has))
      within is
    where
      pins_are : inst_pins d inst ≡ map (cell_pin inst) cell.pins
      pins_are = ap (λ (o : Option Cell). map (cell_pin inst) (cell_pins o)) has

      within : (r : PinReport) → IsPinOf d inst r → Contains rows r
      within r (pin, c, e) =
          let m = in_map_back (cell_pin inst) cell.pins pin (subst (λ (ps : List Pin). Contains ps pin) pins_are c) in
          subst (λ (rs : List PinReport). Contains rs r) (sym told)
          (subst (λ (s : PinReport). Contains (map (λ q. pin_report inst (cell_pin inst q)) cell.pins) s)
          (ap (pin_report inst) m.same ∙ sym e)
          (in_map (λ q. pin_report inst (cell_pin inst q)) cell.pins m.item m.within))

      is : (r : PinReport) → Contains rows r → IsPinOf d inst r
      is r c =
          let m = in_map_back (λ q. pin_report inst (cell_pin inst q)) cell.pins r (subst (λ (rs : List PinReport). Contains rs r) told c) in
          (cell_pin inst m.item, subst (λ (ps : List Pin). Contains ps (cell_pin inst m.item)) (sym pins_are) (in_map (cell_pin inst) cell.pins m.item m.within), sym m.same)
