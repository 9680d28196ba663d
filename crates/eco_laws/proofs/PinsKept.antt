-- The pins of an edited design by their names: where the instance is not touched, the same as in the base.

use Rattle.std.proofs.Common.{◌≡◌, ℕ, true, false, List, Option, None, Some, refl, sym, ap, subst, ◌∙◌, inl, inr}
use Rattle.std.specs.Prelude.{◌&&◌, find, option_map, option_and_then}
use Rattle.std.specs.Option.{option_map_or}
use Rattle.std.specs.Str.{bytes_eq}
use Rattle.std.proofs.lemmas.Bool.{cases_Bool}
use Rattle.timing_defs.specs.declared.kinds.Split.TheVariants.{Late}
use Rattle.timing_defs.specs.declared.library.CellPin.{CellPin}
use Rattle.timing_defs.specs.declared.netlist.Inst.{Inst}
use Rattle.timing_defs.specs.declared.netlist.Port.{Port}
use Rattle.timing_defs.specs.declared.design.Design.{Design}
use Rattle.timing_defs.specs.Netlist.{Pin, name_of, port_pin, cell_pin, cell_pins, cell_of, cell_named, pin_named, pin_at, is_listed}
use Rattle.timing_defs.specs.Edits.{inst_named, has_colon, before_last, after_last}
use Rattle.timing_defs.proofs.SameNames.{same_is}
use Rattle.timing_defs.proofs.Members.{found_passes, some_is}
use Rattle.netlist_store.specs.Linked.{IsLinked}
use Rattle.netlist_store.proofs.Untouched.{IsFramed}
use Rattle.eco_laws.specs.Kept.{IsSameInst, IsInstKept, IsPinKept}
use Rattle.eco_laws.proofs.PinWords.{pin_by_word, pin_by_port}

-- the name of a pin that is found by it
pub named_so : (d : Design) (q : List ℕ) (p : Pin) → pin_named d q ≡ Some p → name_of p ≡ q
named_so d q p e = same_is (name_of p) q (found_passes (λ (r : Pin). bytes_eq (name_of r) q) _ p e)

pub inst_named_so : (insts : List Inst) (x : List ℕ) (i : Inst) → inst_named insts x ≡ Some i → i.name ≡ x
inst_named_so insts x i e = same_is i.name x (found_passes (λ (j : Inst). bytes_eq j.name x) insts i e)

-- its name tells whether a pin has a listed instance
pub owner_told : (d : Design) → IsLinked d → (names : List (List ℕ)) (q : List ℕ) (p : Pin) → pin_named d q ≡ Some p
    → option_map_or (λ inst. is_listed names inst.name) p.owner false ≡ (has_colon q && is_listed names (before_last q))
owner_told d linked names q p found = elim (cases_Bool (has_colon q)) [
  | inl colon ↦ rw colon (by (inst_named d.insts (before_last q)) refl (sym (pin_by_word d linked q colon) ∙ found))
  | inr plain ↦ rw plain (port (find (λ (r : Port). bytes_eq r.name q) d.ports) (sym (pin_by_port q plain d) ∙ found))
]
  where
    port : (o : Option Port) → option_map port_pin o ≡ Some p → option_map_or (λ inst. is_listed names inst.name) p.owner false ≡ false
    port None e = absurd (cc)
    port (Some r) e = ap (λ (z : Pin). option_map_or (λ inst. is_listed names inst.name) z.owner false) (sym (some_is e))

    at_cell : (i : Inst) → i.name ≡ before_last q → (o : Option CellPin) → option_map (cell_pin i) o ≡ Some p
        → option_map_or (λ inst. is_listed names inst.name) p.owner false ≡ is_listed names (before_last q)
    at_cell i same None e = absurd (cc)
    at_cell i same (Some c) e =
        ap (λ (z : Pin). option_map_or (λ inst. is_listed names inst.name) z.owner false) (sym (some_is e)) ∙ ap (is_listed names) same

    by : (o : Option Inst) → inst_named d.insts (before_last q) ≡ o → option_and_then (λ i. pin_at d i (after_last q)) o ≡ Some p
        → option_map_or (λ inst. is_listed names inst.name) p.owner false ≡ is_listed names (before_last q)
    by None f e = absurd (cc)
    by (Some i) f e =
        at_cell i (inst_named_so d.insts (before_last q) i f) (find (λ (c : CellPin). bytes_eq c.name (after_last q)) (cell_pins (cell_of d Late i))) e

module _ (nets : List (List ℕ)) where
  pub pin_kept_self : (o : Option Pin) → IsPinKept nets o o
  pin_kept_self None = refl
  pin_kept_self (Some p) = record { alike = refl; joined = inl refl }

  module _ (d d2 : Design) (framed : IsFramed d d2) (linked : IsLinked d) (linked2 : IsLinked d2) where
    pub late_cell : (i i2 : Inst) → i2.cell ≡ i.cell → cell_of d2 Late i2 ≡ cell_of d Late i
    late_cell i i2 same = λ k. cell_named (framed.late k).cells (same k)

    pin_kept_at : (i i2 : Inst) (own : List ℕ) → IsSameInst nets i i2 → IsPinKept nets (pin_at d i own) (pin_at d2 i2 own)
    pin_kept_at i i2 own same =
        subst (λ c. IsPinKept nets (pin_at d i own) (option_map (cell_pin i2) (find (λ pin. bytes_eq pin.name own) (cell_pins c))))
        (sym (late_cell i i2 same.cell))
        (by (find (λ pin. bytes_eq pin.name own) (cell_pins (cell_of d Late i))))
      where
        by : (o : Option CellPin) → IsPinKept nets (option_map (cell_pin i) o) (option_map (cell_pin i2) o)
        by None = refl
        by (Some p) = record {
          alike = λ k. record { owner = Some (same.name k, same.cell k); own = p.name; dir = p.dir };
          joined = same.conns p.name;
        }

    pin_kept_in : (own : List ℕ) (o o2 : Option Inst) → IsInstKept nets o o2
        → IsPinKept nets (option_and_then (λ i. pin_at d i own) o) (option_and_then (λ i. pin_at d2 i own) o2)
    pin_kept_in own None None h = refl
    pin_kept_in own None (Some i2) h = absurd (cc)
    pin_kept_in own (Some i) None h = absurd h
    pin_kept_in own (Some i) (Some i2) h = pin_kept_at i i2 own h

    pub pin_kept_word : (q : List ℕ) → has_colon q ≡ true → IsInstKept nets (inst_named d.insts (before_last q)) (inst_named d2.insts (before_last q))
        → IsPinKept nets (pin_named d q) (pin_named d2 q)
    pin_kept_word q colon kept =
        subst (λ o. IsPinKept nets o (pin_named d2 q)) (sym (pin_by_word d linked q colon))
        (subst (IsPinKept nets (option_and_then (λ i. pin_at d i (after_last q)) (inst_named d.insts (before_last q)))) (sym (pin_by_word d2 linked2 q colon))
        (pin_kept_in (after_last q) (inst_named d.insts (before_last q)) (inst_named d2.insts (before_last q)) kept))

    pub port_kept : (q : List ℕ) → has_colon q ≡ false → pin_named d2 q ≡ pin_named d q
    port_kept q plain =
        pin_by_port q plain d2 ∙ ap (λ ports. option_map port_pin (find (λ p. bytes_eq p.name q) ports)) framed.ports
        ∙ sym (pin_by_port q plain d)

    pub pin_kept_port : (q : List ℕ) → has_colon q ≡ false → IsPinKept nets (pin_named d q) (pin_named d2 q)
    pin_kept_port q plain = subst (IsPinKept nets (pin_named d q)) (sym (port_kept q plain)) (pin_kept_self (pin_named d q))
