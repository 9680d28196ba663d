-- The numbers that the rows of a store tell.

use Rattle.std.proofs.Common.{◌≡◌, ℕ, ◌<◌, true, List, length, Option, None, Some, refl, sym, ap, subst, ◌∙◌}
use Rattle.std.specs.Prelude.{nat_eq, option_and_then, is_some, slice_get, count_by, if◌then◌else◌, IfSome}
use Rattle.std.proofs.lemmas.Bool.{false≢true}
use Rattle.std.proofs.lemmas.Option.{slice_get_within}
use Rattle.timing_defs.specs.declared.netlist.Inst.{Inst}
use Rattle.netlist_store.specs.declared.tables.Frame.{Frame}
use Rattle.netlist_store.specs.declared.tables.Names.{Names}
use Rattle.netlist_store.specs.declared.tables.Orders.{Orders}
use Rattle.netlist_store.specs.declared.tables.PinRow.{PinRow}
use Rattle.netlist_store.specs.declared.tables.Rows.{Rows}
use Rattle.netlist_store.specs.Numbering.{Stored, number_of, is_number, is_on_number}
use Rattle.netlist_store.specs.Stores.{at, stored_in, TellsPin, TellsInst, IsNetRow, IsPinRow, IsInstRow, AreTables}
use Rattle.netlist_store.proofs.NumberLaws.{number_at}

-- a number that is found by a name stands for it
pub is_found : {X : Type 0} (names : List (Option (List ℕ))) (name : X → List ℕ) (x : Option X) (o : Option ℕ)
    → o ≡ option_and_then (λ y. number_of names (name y)) x → IfSome o (λ n. is_number names n ≡ true)
is_found names name x None e = tt
is_found names name None (Some n) e = absurd (cc)
is_found names name (Some y) (Some n) e = ap is_some (number_at names (name y) n (sym e))

-- tables that are equal part by part tell the same
module _ (frame frame' : Frame) (names names' : Names) (rows rows' : Rows) (orders orders' : Orders)
    (e : frame' ≡ frame) (f : names' ≡ names) (g : rows' ≡ rows) (h : orders' ≡ orders) where
  pub same_stored : stored_in frame' names' rows' orders' ≡ stored_in frame names rows orders
  same_stored =
      ap (λ x. stored_in x names' rows' orders') e ∙ ap (λ x. stored_in frame x rows' orders') f ∙ ap (λ x. stored_in frame names x orders') g
      ∙ ap (λ x. stored_in frame names rows x) h

  pub same_tables : AreTables (stored_in frame names rows orders) rows orders → AreTables (stored_in frame' names' rows' orders') rows' orders'
  same_tables tables =
      subst (λ s. AreTables s rows' orders') (sym same_stored)
      (subst (λ x. AreTables (stored_in frame names rows orders) x orders') (sym g)
      (subst (λ x. AreTables (stored_in frame names rows orders) rows x) (sym h) tables))

-- a row tells of its number, whatever the store is called
module _ (frame : Frame) (names : Names) (rows : Rows) (orders : Orders) (t : AreTables (stored_in frame names rows orders) rows orders)
    (s : Stored) (view : stored_in frame names rows orders ≡ s) (n : ℕ) where
  pub pin_within : is_number s.pins n ≡ true → n < length rows.pins
  pin_within there = by (slice_get rows.pins n) refl (t.pin_rows n (ap (λ (z : Stored). is_number z.pins n) view ∙ there))
    where
      by : (o : Option PinRow) → slice_get rows.pins n ≡ o → IsPinRow (stored_in frame names rows orders) n o → n < length rows.pins
      by None e h = absurd h
      by (Some row) e h = slice_get_within rows.pins n row e

  pub pin_tells : is_number s.pins n ≡ true → (row : PinRow) → slice_get rows.pins n ≡ Some row → TellsPin s n row
  pin_tells there row e =
      subst (λ (z : Stored). TellsPin z n row) view
      (subst (IsPinRow (stored_in frame names rows orders) n) e (t.pin_rows n (ap (λ (z : Stored). is_number z.pins n) view ∙ there)))

  pub inst_tells : (row : Inst) → at rows.insts n ≡ Some row → TellsInst s n row
  inst_tells row e =
      subst (λ (z : Stored). TellsInst z n row) view (subst (IsInstRow (stored_in frame names rows orders) n) e (t.inst_rows n))

  pub inst_there : is_number s.insts n ≡ true → at rows.insts n ≡ None → ⊥
  inst_there there none =
      false≢true
      (sym (subst (IsInstRow (stored_in frame names rows orders) n) none (t.inst_rows n)) ∙ ap (λ (z : Stored). is_number z.insts n) view ∙ there)

  pub net_within : is_number s.nets n ≡ true → n < length rows.net_pins
  net_within there = by (slice_get rows.net_pins n) refl (t.net_rows n (ap (λ (z : Stored). is_number z.nets n) view ∙ there))
    where
      by : (o : Option (List ℕ)) → slice_get rows.net_pins n ≡ o → IsNetRow (stored_in frame names rows orders) n o → n < length rows.net_pins
      by None e h = absurd h
      by (Some pins) e h = slice_get_within rows.net_pins n pins e

  pub net_tells : is_number s.nets n ≡ true → (pins : List ℕ) → slice_get rows.net_pins n ≡ Some pins
      → (pin : ℕ) → count_by (nat_eq pin) pins ≡ (if is_on_number s n pin then 1 else 0)
  net_tells there pins e =
      subst (λ (z : Stored). IsNetRow z n (Some pins)) view
      (subst (IsNetRow (stored_in frame names rows orders) n) e (t.net_rows n (ap (λ (z : Stored). is_number z.nets n) view ∙ there)))
