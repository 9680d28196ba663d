-- What a store tells of a pin's capacitance.

use Rattle.std.proofs.Common.{◌≡◌, ℕ, ℤ, pos, true, false, List, Some, sym, ap, ◌∙◌}
use Rattle.std.specs.Prelude.{find, is_some, option_map, option_and_then}
use Rattle.std.specs.Option.{option_map_or}
use Rattle.std.specs.Str.{bytes_eq}
use Rattle.timing_defs.specs.declared.kinds.Split.{Split}
use Rattle.timing_defs.specs.declared.library.Cell.{Cell}
use Rattle.timing_defs.specs.declared.library.CellPin.{CellPin}
use Rattle.timing_defs.specs.Netlist.{Pin, full_name, cell_of, cell_pins}
use Rattle.timing_defs.specs.Wires.{pin_cap, owner_cap, port_load}
use Rattle.netlist_store.specs.Linked.{IsLinked}
use Rattle.netlist_store.specs.Numbering.{Stored, name_at, is_number, inst_numbered, pin_numbered, owner_number, IsNumbered}
use Rattle.timing_defs.proofs.Members.{some_is}
use Rattle.store_pins.proofs.PinLaws.{pin_at_number, owner_told, no_owner}

module _ (s : Stored) (num : IsNumbered s) (linked : IsLinked s.design) (pin : ℕ) (is : is_number s.pins pin ≡ true) where
  pub cap_owned : (split : Split) (n : ℕ) (cell : Cell) (own : List ℕ) (cap : ℤ) → Some n ≡ owner_number s pin
      → option_and_then (cell_of s.design split) (inst_numbered s n) ≡ Some cell → option_map (λ (p : Pin). p.own) (pin_numbered s pin) ≡ Some own
      → cap ≡ option_map_or (λ (p : CellPin). p.cap.0) (find (λ (p : CellPin). bytes_eq p.name own) cell.pins) (pos 0)
      → option_map (pin_cap s.design split) (pin_numbered s pin) ≡ Some cap
  cap_owned split n cell own cap owned has named e =
      let p = pin_at_number s num linked pin is in
      let o = owner_told s num linked pin n p.0 p.1.pin (sym owned) in
      let of_cell : cell_of s.design split o.inst ≡ Some cell = sym (ap (option_and_then (cell_of s.design split)) o.there.inst) ∙ has in
      let word : p.0.own ≡ own = some_is (sym (ap (option_map (λ (q : Pin). q.own)) p.1.pin) ∙ named) in
      ap (option_map (pin_cap s.design split)) p.1.pin
      ∙ ap Some (ap (λ w. owner_cap s.design split w p.0.own) o.owns
      ∙ ap (λ c. option_map_or (λ (q : CellPin). q.cap.0) (find (λ (q : CellPin). bytes_eq q.name p.0.own) (cell_pins c)) (pos 0)) of_cell
      ∙ ap (λ w. option_map_or (λ (q : CellPin). q.cap.0) (find (λ (q : CellPin). bytes_eq q.name w) cell.pins) (pos 0)) word
      ∙ sym e)

  pub cap_port : (split : Split) (name : List ℕ) (cap : ℤ) → false ≡ is_some (option_and_then (λ (p : Pin). p.owner) (pin_numbered s pin)) → name_at s.pins pin ≡ Some name
      → cap ≡ port_load s.design.constraints.loads split name → option_map (pin_cap s.design split) (pin_numbered s pin) ≡ Some cap
  cap_port split name cap none named e =
      let p = pin_at_number s num linked pin is in
      let lone = no_owner s num linked pin p.0 p.1.pin (sym none) in
      let whole : name ≡ p.0.own = some_is (sym named ∙ p.1.name) ∙ ap (λ o. full_name o p.0.own) lone in
      ap (option_map (pin_cap s.design split)) p.1.pin
      ∙ ap Some (ap (λ w. owner_cap s.design split w p.0.own) lone ∙ ap (port_load s.design.constraints.loads split) (sym whole) ∙ sym e)
