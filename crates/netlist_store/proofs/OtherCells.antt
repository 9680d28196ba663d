-- The tables of a store, as an instance becomes another cell that has its connected pins.

use Rattle.std.proofs.Common.{◌≡◌, ◌≢◌, ℕ, Bool, true, false, List, Option, None, Some, refl, sym, ap, ◌∙◌, inl, inr, ◌⊎◌, not}
use Rattle.std.specs.Prelude.{◌&&◌, nat_eq, find, option_and_then, option_map, is_some, slice_get, if◌then◌else◌}
use Rattle.std.specs.List.{list_any, list_all, filter_map}
use Rattle.std.specs.Option.{option_map_or, option_or}
use Rattle.std.specs.Str.{bytes_eq}
use Rattle.std.proofs.lemmas.Bool.{cases_Bool, false≢true, true≢false}
use Rattle.std.proofs.lemmas.Bool.Decides.{eqb_tells}
use Rattle.timing_defs.specs.declared.library.CellPin.{CellPin}
use Rattle.timing_defs.specs.declared.netlist.Inst.{Inst}
use Rattle.timing_defs.specs.Netlist.{cell_pin, cell_pins, cell_named, conn_net}
use Rattle.timing_defs.specs.Edits.{after_last, on_inst}
use Rattle.netlist_store.specs.declared.tables.Frame.{Frame}
use Rattle.netlist_store.specs.declared.tables.Names.{Names}
use Rattle.netlist_store.specs.declared.tables.Orders.{Orders}
use Rattle.netlist_store.specs.declared.tables.PinRow.{PinRow}
use Rattle.netlist_store.specs.declared.tables.Rows.{Rows}
use Rattle.netlist_store.specs.Numbering.{name_at, number_of, AreNumbers}
use Rattle.netlist_store.specs.Linked.{IsLinked}
use Rattle.netlist_store.specs.Stores.{at, design_in}
use Rattle.netlist_store.specs.Drafts.{IsFilled, row_named, inst_row, row_among, is_lost}
use Rattle.netlist_store.proofs.NumberLaws.{number_at, some_is}
use Rattle.netlist_store.proofs.PinsByWord.{is_plain}
use Rattle.netlist_store.proofs.NetEdits.{pins_alike}
use Rattle.netlist_store.proofs.Sound.{AreSound, on_row, row_by, row_of, own_pin, look_in}
use Rattle.netlist_store.proofs.InstEdits.{of_inst, look_put, row_edited, insts_changed}
use Rattle.netlist_store.proofs.PinsOfInst.{has_own, row_by_parts, lost_by_parts}
use Rattle.netlist_store.proofs.PinsKept.{rows_kept, on_numbered}
use Rattle.netlist_store.proofs.InstPins.{on_own, row_was}

module _ (frame : Frame) (names : Names) (rows : Rows) (orders : Orders) (s : AreSound frame names rows orders)
    (x : List ℕ) (n : ℕ) (here : number_of names.insts x ≡ Some n) (i : Inst) (its : at rows.insts n ≡ Some i) (cell : List ℕ)
    (table : List (Option Inst)) (put : (k : ℕ) → at table k ≡ (if nat_eq n k then Some (record { name = i.name; cell = cell; conns = i.conns }) else at rows.insts k)) where
  named : i.name ≡ x
  named = some_is (sym (s.inst_names n i its) ∙ number_at names.insts x n here)

  look_old : look_in names.insts rows.insts x ≡ Some i
  look_old = ap (option_and_then (at rows.insts)) here ∙ its

  pub cells_changed : filter_map (at table) orders.insts ≡ on_inst x (λ j. record { name = j.name; cell = cell; conns = j.conns }) (filter_map (at rows.insts) orders.insts)
  cells_changed =
      insts_changed frame names rows orders s x n here table (Some (record { name = i.name; cell = cell; conns = i.conns })) put
      (λ j. record { name = j.name; cell = cell; conns = j.conns }) i its refl

  edited : (q : List ℕ) → row_by frame names.insts names.nets table q
      ≡ (if of_inst x q then option_map (row_of names.insts names.nets) (own_pin frame.late.cells (after_last q) (record { name = i.name; cell = cell; conns = i.conns }))
      else row_by frame names.insts names.nets rows.insts q)
  edited =
      row_edited frame names rows orders s x names.insts table (Some (record { name = i.name; cell = cell; conns = i.conns })) (λ q e. refl)
      (look_put frame names rows orders s x n here table (Some (record { name = i.name; cell = cell; conns = i.conns })) put)

  module _ (new old : List CellPin) (new_are : new ≡ cell_pins (cell_named frame.late.cells cell)) (old_are : old ≡ cell_pins (cell_named frame.late.cells i.cell))
      (new_plain : list_all is_plain new ≡ true) (old_plain : list_all is_plain old ≡ true)
      (has_new : (own net : List ℕ) → conn_net i.conns own ≡ Some net → has_own own new ≡ true)
      (has_old : (own net : List ℕ) → conn_net i.conns own ≡ Some net → has_own own old ≡ true) where
    new_row : (q : List ℕ) → of_inst x q ≡ true → row_by frame names.insts names.nets table q
        ≡ option_map (row_of names.insts names.nets) (option_map (cell_pin (record { name = i.name; cell = cell; conns = i.conns })) (find (λ p. bytes_eq p.name (after_last q)) new))
    new_row q h =
        edited q
        ∙ ap (λ b. if b then option_map (row_of names.insts names.nets) (own_pin frame.late.cells (after_last q) (record { name = i.name; cell = cell; conns = i.conns })) else row_by frame names.insts names.nets rows.insts q) h
        ∙ ap (λ zs. option_map (row_of names.insts names.nets) (option_map (cell_pin (record { name = i.name; cell = cell; conns = i.conns })) (find (λ p. bytes_eq p.name (after_last q)) zs))) (sym new_are)

    old_row : (q : List ℕ) → of_inst x q ≡ true → row_by frame names.insts names.nets rows.insts q
        ≡ option_map (row_of names.insts names.nets) (option_map (cell_pin i) (find (λ p. bytes_eq p.name (after_last q)) old))
    old_row q h =
        row_was frame names.insts names.nets rows.insts x i look_old q h
        ∙ ap (λ zs. option_map (row_of names.insts names.nets) (option_map (cell_pin i) (find (λ p. bytes_eq p.name (after_last q)) zs))) (sym old_are)

    other_row : (q : List ℕ) → of_inst x q ≡ false → row_by frame names.insts names.nets table q ≡ row_by frame names.insts names.nets rows.insts q
    other_row q h =
        edited q
        ∙ ap (λ b. if b then option_map (row_of names.insts names.nets) (own_pin frame.late.cells (after_last q) (record { name = i.name; cell = cell; conns = i.conns })) else row_by frame names.insts names.nets rows.insts q) h

    old_on : (k : ℕ) (q : List ℕ) → of_inst x q ≡ true → on_row k (row_by frame names.insts names.nets rows.insts q)
        ≡ option_map_or (nat_eq k) (option_and_then (number_of names.nets) (conn_net i.conns (after_last q))) false
    old_on k q h = ap (on_row k) (old_row q h) ∙ on_own names.insts names.nets i (after_last q) k old (has_old (after_last q))

    same_on : (k : ℕ) (q : List ℕ) → on_row k (row_by frame names.insts names.nets table q) ≡ on_row k (row_by frame names.insts names.nets rows.insts q)
    same_on k q = elim (cases_Bool (of_inst x q)) [
      | inl h ↦
          ap (on_row k) (new_row q h)
          ∙ on_own names.insts names.nets (record { name = i.name; cell = cell; conns = i.conns }) (after_last q) k new (has_new (after_last q)) ∙ sym (old_on k q h)
      | inr h ↦ ap (on_row k) (other_row q h)
    ]

    -- what goes
    lost_own : (q : List ℕ) → of_inst x q ≡ true → list_any (is_lost x new q) old ≡ (not (has_own (after_last q) new) && has_own (after_last q) old)
    lost_own q h = lost_by_parts x new old old_plain q ∙ ap (λ b. b && (not (has_own (after_last q) new) && has_own (after_last q) old)) h

    not_lost : (q : List ℕ) → of_inst x q ≡ false → list_any (is_lost x new q) old ≡ false
    not_lost q h = lost_by_parts x new old old_plain q ∙ ap (λ b. b && (not (has_own (after_last q) new) && has_own (after_last q) old)) h

    on_stays : (k : ℕ) (q : List ℕ) → on_row k (row_by frame names.insts names.nets rows.insts q) ≡ true → list_any (is_lost x new q) old ≡ false
    on_stays k q on = elim (cases_Bool (of_inst x q)) [
      | inl h ↦
          lost_own q h
          ∙ ap (λ b. not b && has_own (after_last q) old) (connected (conn_net i.conns (after_last q)) refl (sym (old_on k q h) ∙ on))
      | inr h ↦ not_lost q h
    ]
      where
        connected : (o : Option (List ℕ)) → conn_net i.conns (after_last q) ≡ o → option_map_or (nat_eq k) (option_and_then (number_of names.nets) o) false ≡ true
            → has_own (after_last q) new ≡ true
        connected None e h = absurd (false≢true h)
        connected (Some net) e h = has_new (after_last q) net e

    module _ (pins : List (Option (List ℕ))) (are : AreNumbers pins) (pin_rows : List PinRow) (filled : IsFilled pins pin_rows)
        (written : (q : List ℕ) → row_named pins pin_rows q
        ≡ option_or (row_among x (inst_row names.nets (record { name = i.name; cell = cell; conns = i.conns }) n) new q) (if list_any (is_lost x new q) old then None else row_named names.pins rows.pins q))
        (kept : (q : List ℕ) (m : ℕ) → list_any (is_lost x new q) old ≡ false → number_of names.pins q ≡ Some m → number_of pins q ≡ Some m) where
      rows_now : (q : List ℕ) → row_named pins pin_rows q ≡ row_by frame names.insts names.nets table q
      rows_now q =
          written q
          ∙ ap (λ o. option_or (row_among x (inst_row names.nets (record { name = i.name; cell = cell; conns = i.conns }) n) new q) (if list_any (is_lost x new q) old then None else o)) (s.pin_rows q)
          ∙ by (cases_Bool (of_inst x q))
        where
          lost_row : (b : Bool) → of_inst x q ≡ true → find (λ p. bytes_eq p.name (after_last q)) new ≡ None → has_own (after_last q) old ≡ b
              → (if b then None else row_by frame names.insts names.nets rows.insts q) ≡ None
          lost_row true h e f = refl
          lost_row false h e f = old_row q h ∙ gone (find (λ p. bytes_eq p.name (after_last q)) old) f
            where
              gone : (o : Option CellPin) → is_some o ≡ false → option_map (row_of names.insts names.nets) (option_map (cell_pin i) o) ≡ None
              gone None g = refl
              gone (Some p) g = absurd (true≢false g)

          own : of_inst x q ≡ true → (o : Option CellPin) → find (λ p. bytes_eq p.name (after_last q)) new ≡ o
              → option_or (option_map (inst_row names.nets (record { name = i.name; cell = cell; conns = i.conns }) n) o) (if list_any (is_lost x new q) old then None else row_by frame names.insts names.nets rows.insts q)
              ≡ option_map (row_of names.insts names.nets) (option_map (cell_pin (record { name = i.name; cell = cell; conns = i.conns })) o)
          own h None e =
              ap (λ b. if b then None else row_by frame names.insts names.nets rows.insts q)
              (lost_own q h ∙ ap (λ o. not (is_some o) && has_own (after_last q) old) e)
              ∙ lost_row (has_own (after_last q) old) h e refl
          own h (Some p) e =
              ap (λ owner. Some (record { owner = owner; net = option_and_then (number_of names.nets) (conn_net i.conns p.name); dir = p.dir }))
              (sym (ap (number_of names.insts) named ∙ here))

          by : (of_inst x q ≡ true) ⊎ (of_inst x q ≡ false)
              → option_or (row_among x (inst_row names.nets (record { name = i.name; cell = cell; conns = i.conns }) n) new q) (if list_any (is_lost x new q) old then None else row_by frame names.insts names.nets rows.insts q)
              ≡ row_by frame names.insts names.nets table q
          by (inl h) =
              ap (λ o. option_or o (if list_any (is_lost x new q) old then None else row_by frame names.insts names.nets rows.insts q))
              (row_by_parts x (inst_row names.nets (record { name = i.name; cell = cell; conns = i.conns }) n) new new_plain q
              ∙ ap (λ b. if b then option_map (inst_row names.nets (record { name = i.name; cell = cell; conns = i.conns }) n) (find (λ p. bytes_eq p.name (after_last q)) new) else None) h)
              ∙ own h (find (λ p. bytes_eq p.name (after_last q)) new) refl ∙ sym (new_row q h)
          by (inr h) =
              ap (λ o. option_or o (if list_any (is_lost x new q) old then None else row_by frame names.insts names.nets rows.insts q))
              (row_by_parts x (inst_row names.nets (record { name = i.name; cell = cell; conns = i.conns }) n) new new_plain q
              ∙ ap (λ b. if b then option_map (inst_row names.nets (record { name = i.name; cell = cell; conns = i.conns }) n) (find (λ p. bytes_eq p.name (after_last q)) new) else None) h)
              ∙ ap (λ b. if b then None else row_by frame names.insts names.nets rows.insts q) (not_lost q h) ∙ sym (other_row q h)

      pub cell_put : IsLinked (design_in frame (record names { pins = pins }) (record rows { insts = table; pins = pin_rows }) orders)
          → AreSound frame (record names { pins = pins }) (record rows { insts = table; pins = pin_rows }) orders
      cell_put linked = record {
        inst_names = λ k j e. elim (eqb_tells n k) [
          | inl h ↦
              let f : (record { name = i.name; cell = cell; conns = i.conns }) ≡ j = some_is (ap (λ b. if b then Some (record { name = i.name; cell = cell; conns = i.conns }) else at rows.insts k) (sym h.0) ∙ sym (put k) ∙ e) in
              ap (name_at names.insts) (sym h.1) ∙ s.inst_names n i its ∙ ap (λ (y : Inst). Some y.name) f
          | inr h ↦ s.inst_names k j (ap (λ b. if b then Some (record { name = i.name; cell = cell; conns = i.conns }) else at rows.insts k) (sym h.0) ∙ sym (put k) ∙ e)
        ];
        inst_numbers = λ k. s.inst_numbers k ∙ there k (eqb_tells n k) ∙ ap is_some (sym (put k));
        rc_names = s.rc_names;
        insts_ordered = s.insts_ordered;
        nets_ordered = s.nets_ordered;
        rcs_ordered = s.rcs_ordered;
        insts = s.insts;
        nets = s.nets;
        pins = are;
        pin_rows = rows_now;
        filled = filled;
        net_rows = λ k there.
            pins_alike (λ p. on_row k (option_and_then (row_by frame names.insts names.nets rows.insts) (name_at names.pins p))) (λ p. on_row k (option_and_then (row_by frame names.insts names.nets table) (name_at pins p)))
            (rows_kept names.pins pins s.pins are k (row_by frame names.insts names.nets rows.insts) (row_by frame names.insts names.nets table) (same_on k)
            (on_numbered names.pins rows.pins k (row_by frame names.insts names.nets rows.insts) s.pin_rows) (λ q m on e. kept q m (on_stays k q on) e))
            (slice_get rows.net_pins k) (s.net_rows k there);
        linked = linked;
      }
        where
          there : (k : ℕ) → (((nat_eq n k ≡ true) × (n ≡ k)) ⊎ ((nat_eq n k ≡ false) × (n ≢ k)))
              → is_some (at rows.insts k) ≡ is_some (if nat_eq n k then Some (record { name = i.name; cell = cell; conns = i.conns }) else at rows.insts k)
          there k (inl h) = rw h.0 (ap (λ m. is_some (at rows.insts m)) (sym h.1) ∙ ap is_some its)
          there k (inr h) = rw h.0 refl
