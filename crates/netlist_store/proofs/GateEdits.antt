-- The tables of a store, as a gate with open pins comes.

use Rattle.std.proofs.Common.{◌≡◌, ℕ, Bool, true, false, List, [], ◌∷◌, ◌++◌, Option, None, Some, refl, sym, ap, ◌∙◌, inl, inr, ◌⊎◌}
use Rattle.std.specs.Prelude.{nat_eq, find, option_and_then, option_map, is_some, slice_get, if◌then◌else◌}
use Rattle.std.specs.List.{list_all, filter_map}
use Rattle.std.specs.Option.{option_or}
use Rattle.std.specs.Str.{bytes_eq}
use Rattle.std.proofs.lemmas.Bool.{cases_Bool, false≢true, true≢false, eq-eqb, and_parts}
use Rattle.std.proofs.lemmas.Bool.Decides.{eqb_tells}
use Rattle.timing_defs.specs.declared.library.CellPin.{CellPin}
use Rattle.timing_defs.specs.declared.netlist.Inst.{Inst}
use Rattle.timing_defs.specs.Netlist.{cell_pin, cell_pins, cell_named}
use Rattle.timing_defs.specs.Edits.{has_colon, before_last, after_last}
use Rattle.netlist_store.specs.declared.tables.Frame.{Frame}
use Rattle.netlist_store.specs.declared.tables.Names.{Names}
use Rattle.netlist_store.specs.declared.tables.Orders.{Orders}
use Rattle.netlist_store.specs.declared.tables.PinRow.{PinRow}
use Rattle.netlist_store.specs.declared.tables.Rows.{Rows}
use Rattle.netlist_store.specs.Numbering.{name_at, number_of, AreNumbers}
use Rattle.netlist_store.specs.Linked.{IsLinked}
use Rattle.netlist_store.specs.Stores.{at, design_in}
use Rattle.netlist_store.specs.Drafts.{IsFilled, KeepsNames, row_named}
use Rattle.netlist_store.proofs.ShardLaws.{same_is, same_self}
use Rattle.netlist_store.proofs.NumberLaws.{number_at, some_is}
use Rattle.netlist_store.proofs.NumberEdits.{number_new}
use Rattle.netlist_store.proofs.PinsByWord.{is_plain}
use Rattle.netlist_store.proofs.RcEdits.{any_push, map_push}
use Rattle.netlist_store.proofs.InOrder.{same_rows}
use Rattle.netlist_store.proofs.NetEdits.{pins_alike}
use Rattle.netlist_store.proofs.Sound.{AreSound, on_row, row_by, row_of, own_pin, look_in}
use Rattle.netlist_store.proofs.InstEdits.{of_inst, row_edited}
use Rattle.netlist_store.proofs.PinsOfInst.{gate_row, gate_by_parts}

module _ (frame : Frame) (names : Names) (rows : Rows) (orders : Orders) (s : AreSound frame names rows orders)
    (x cell : List ℕ) (n : ℕ) (insts : List (Option (List ℕ))) (still : AreNumbers insts)
    (new : (k : ℕ) → name_at insts k ≡ (if nat_eq n k then Some x else name_at names.insts k)) (gap : name_at names.insts n ≡ None)
    (fresh : number_of names.insts x ≡ None)
    (table : List (Option Inst)) (put : (k : ℕ) → at table k ≡ (if nat_eq n k then Some (record { name = x; cell = cell; conns = [] }) else at rows.insts k)) where
  number_now : (q : List ℕ) → number_of insts q ≡ (if bytes_eq q x then Some n else number_of names.insts q)
  number_now = number_new names.insts insts s.insts still n x new gap

  others : (q : List ℕ) → bytes_eq q x ≡ false → number_of insts q ≡ number_of names.insts q
  others q h = number_now q ∙ ap (λ b. if b then Some n else number_of names.insts q) h

  not_gap : (k : ℕ) → is_some (name_at names.insts k) ≡ true → nat_eq n k ≡ false
  not_gap k there = elim (eqb_tells n k) [
    | inl h ↦ absurd (true≢false (sym there ∙ ap is_some (ap (name_at names.insts) (sym h.1) ∙ gap)))
    | inr h ↦ h.0
  ]

  here_now : at table n ≡ Some (record { name = x; cell = cell; conns = [] })
  here_now = put n ∙ ap (λ b. if b then Some (record { name = x; cell = cell; conns = [] }) else at rows.insts n) (eq-eqb n n refl)

  look_now : (q : List ℕ) → look_in insts table q ≡ (if bytes_eq q x then Some (record { name = x; cell = cell; conns = [] }) else look_in names.insts rows.insts q)
  look_now q = elim (cases_Bool (bytes_eq q x)) [
    | inl h ↦ rw h (ap (option_and_then (at table)) (number_now q ∙ ap (λ b. if b then Some n else number_of names.insts q) h) ∙ here_now)
    | inr h ↦ rw h (ap (option_and_then (at table)) (others q h) ∙ by (number_of names.insts q) refl)
  ]
    where
      by : (o : Option ℕ) → number_of names.insts q ≡ o → option_and_then (at table) o ≡ option_and_then (at rows.insts) o
      by None e = refl
      by (Some k) e =
          put k ∙ ap (λ b. if b then Some (record { name = x; cell = cell; conns = [] }) else at rows.insts k)
          (not_gap k (ap is_some (number_at names.insts q k e)))

  pub insts_pushed : filter_map (at table) (orders.insts ++ n ∷ []) ≡ filter_map (at rows.insts) orders.insts ++ record { name = x; cell = cell; conns = [] } ∷ []
  insts_pushed =
      map_push (at table) orders.insts n (record { name = x; cell = cell; conns = [] }) here_now
      ∙ ap (λ xs. xs ++ record { name = x; cell = cell; conns = [] } ∷ [])
      (same_rows (at rows.insts) (at table) orders.insts
      (λ k h. put k ∙ ap (λ b. if b then Some (record { name = x; cell = cell; conns = [] }) else at rows.insts k) (not_gap k (sym (s.insts_ordered k) ∙ h))))

  -- the rows of pins
  old_none : (q : List ℕ) → of_inst x q ≡ true → row_by frame names.insts names.nets rows.insts q ≡ None
  old_none q h =
      let k = and_parts (has_colon q) (bytes_eq (before_last q) x) h in
      let f : look_in names.insts rows.insts (before_last q) ≡ None =
      ap (option_and_then (at rows.insts)) (ap (number_of names.insts) (same_is (before_last q) x k.1) ∙ fresh) in
      rw k.0 (ap (λ o. option_map (row_of names.insts names.nets) (option_and_then (own_pin frame.late.cells (after_last q)) o)) f)

  row_now : list_all is_plain (cell_pins (cell_named frame.late.cells cell)) ≡ true → (q : List ℕ)
      → row_by frame insts names.nets table q ≡ option_or (gate_row x n (cell_pins (cell_named frame.late.cells cell)) q) (row_by frame names.insts names.nets rows.insts q)
  row_now plain q =
      row_edited frame names rows orders s x insts table (Some (record { name = x; cell = cell; conns = [] })) others look_now q
      ∙ by (cases_Bool (of_inst x q))
    where
      open_rows : (o : Option CellPin) → option_map (row_of insts names.nets) (option_map (cell_pin (record { name = x; cell = cell; conns = [] })) o)
          ≡ option_map (λ p. record { owner = Some n; net = None; dir = p.dir }) o
      open_rows None = refl
      open_rows (Some p) =
          ap (λ owner. Some (record { owner = owner; net = None; dir = p.dir }))
          (number_now x ∙ ap (λ b. if b then Some n else number_of names.insts x) (same_self x))

      none_old : (o r : Option PinRow) → r ≡ None → o ≡ option_or o r
      none_old None r e = sym e
      none_old (Some y) r e = refl

      by : (of_inst x q ≡ true) ⊎ (of_inst x q ≡ false)
          → (if of_inst x q then option_map (row_of insts names.nets) (own_pin frame.late.cells (after_last q) (record { name = x; cell = cell; conns = [] }))
          else row_by frame names.insts names.nets rows.insts q) ≡ option_or (gate_row x n (cell_pins (cell_named frame.late.cells cell)) q) (row_by frame names.insts names.nets rows.insts q)
      by (inl h) =
          ap (λ b. if b then option_map (row_of insts names.nets) (own_pin frame.late.cells (after_last q) (record { name = x; cell = cell; conns = [] })) else row_by frame names.insts names.nets rows.insts q) h
          ∙ open_rows (find (λ p. bytes_eq p.name (after_last q)) (cell_pins (cell_named frame.late.cells cell)))
          ∙ sym (gate_by_parts x n (cell_pins (cell_named frame.late.cells cell)) plain q
          ∙ ap (λ b. if b then option_map (λ p. record { owner = Some n; net = None; dir = p.dir }) (find (λ p. bytes_eq p.name (after_last q)) (cell_pins (cell_named frame.late.cells cell))) else None) h)
          ∙ none_old (gate_row x n (cell_pins (cell_named frame.late.cells cell)) q) (row_by frame names.insts names.nets rows.insts q) (old_none q h)
      by (inr h) =
          ap (λ b. if b then option_map (row_of insts names.nets) (own_pin frame.late.cells (after_last q) (record { name = x; cell = cell; conns = [] })) else row_by frame names.insts names.nets rows.insts q) h
          ∙ sym (ap (λ o. option_or o (row_by frame names.insts names.nets rows.insts q))
          (gate_by_parts x n (cell_pins (cell_named frame.late.cells cell)) plain q
          ∙ ap (λ b. if b then option_map (λ p. record { owner = Some n; net = None; dir = p.dir }) (find (λ p. bytes_eq p.name (after_last q)) (cell_pins (cell_named frame.late.cells cell))) else None) h))

  -- a new pin is on no net
  module _ (plain : list_all is_plain (cell_pins (cell_named frame.late.cells cell)) ≡ true) (pins : List (Option (List ℕ))) (are : AreNumbers pins) (kept : KeepsNames names.pins pins) (pin_rows : List PinRow)
      (filled : IsFilled pins pin_rows)
      (written : (q : List ℕ) → row_named pins pin_rows q ≡ option_or (gate_row x n (cell_pins (cell_named frame.late.cells cell)) q) (row_named names.pins rows.pins q)) where
    rows_now : (q : List ℕ) → row_named pins pin_rows q ≡ row_by frame insts names.nets table q
    rows_now q = written q ∙ ap (option_or (gate_row x n (cell_pins (cell_named frame.late.cells cell)) q)) (s.pin_rows q) ∙ sym (row_now plain q)

    off_gate : (k : ℕ) (o : Option CellPin) → on_row k (option_map (λ (p : CellPin). record { owner = Some n; net = None; dir = p.dir }) o) ≡ false
    off_gate k None = refl
    off_gate k (Some p) = refl

    on_or : (k : ℕ) (o r : Option PinRow) → on_row k o ≡ false → (is_some o ≡ true → r ≡ None) → on_row k (option_or o r) ≡ on_row k r
    on_or k None r off none = refl
    on_or k (Some y) r off none = off ∙ sym (ap (on_row k) (none refl))

    gate_own : (q : List ℕ) → is_some (gate_row x n (cell_pins (cell_named frame.late.cells cell)) q) ≡ true → of_inst x q ≡ true
    gate_own q some = elim (cases_Bool (of_inst x q)) [
      | inl h ↦ h
      | inr h ↦
          let f : gate_row x n (cell_pins (cell_named frame.late.cells cell)) q ≡ None =
          gate_by_parts x n (cell_pins (cell_named frame.late.cells cell)) plain q
          ∙ ap (λ b. if b then option_map (λ p. record { owner = Some n; net = None; dir = p.dir }) (find (λ p. bytes_eq p.name (after_last q)) (cell_pins (cell_named frame.late.cells cell))) else None) h in
          absurd (false≢true (sym (ap is_some f) ∙ some))
    ]

    same_on : (k : ℕ) (q : List ℕ) → on_row k (row_by frame insts names.nets table q) ≡ on_row k (row_by frame names.insts names.nets rows.insts q)
    same_on k q =
        ap (on_row k) (row_now plain q)
        ∙ on_or k (gate_row x n (cell_pins (cell_named frame.late.cells cell)) q) (row_by frame names.insts names.nets rows.insts q)
        (off_gate k (find (λ p. bytes_eq q (x ++ 58 ∷ p.name)) (cell_pins (cell_named frame.late.cells cell)))) (λ h. old_none q (gate_own q h))

    on_now : (k p : ℕ) → on_row k (option_and_then (row_by frame insts names.nets table) (name_at pins p)) ≡ on_row k (option_and_then (row_by frame names.insts names.nets rows.insts) (name_at names.pins p))
    on_now k p = by (name_at pins p) (name_at names.pins p) refl refl
      where
        lost : (q : List ℕ) → name_at names.pins p ≡ Some q → name_at pins p ≡ Some q
        lost q e = number_at pins q p (kept q p (s.pins.distinct p q e))

        by : (o r : Option (List ℕ)) → name_at pins p ≡ o → name_at names.pins p ≡ r
            → on_row k (option_and_then (row_by frame insts names.nets table) (name_at pins p)) ≡ on_row k (option_and_then (row_by frame names.insts names.nets rows.insts) (name_at names.pins p))
        by None None e f = rw (e, f) refl
        by None (Some q) e f = let g = lost q f in absurd (cc)
        by (Some q) None e f =
            -- a new pin: it has no row in the old tables
            let was : row_by frame names.insts names.nets rows.insts q ≡ None = sym (s.pin_rows q) ∙ none_named q e f in
            rw (e, f) (same_on k q ∙ ap (on_row k) was)
          where
            none_named : (q : List ℕ) → name_at pins p ≡ Some q → name_at names.pins p ≡ None → row_named names.pins rows.pins q ≡ None
            none_named q e f = numbered (number_of names.pins q) refl
              where
                numbered : (o : Option ℕ) → number_of names.pins q ≡ o → option_and_then (slice_get rows.pins) o ≡ None
                numbered None g = refl
                numbered (Some j) g =
                    let one : number_of pins q ≡ Some j = kept q j g in
                    let two : number_of pins q ≡ Some p = are.distinct p q e in
                    let same : j ≡ p = some_is (sym one ∙ two) in
                    let stands : name_at names.pins p ≡ Some q = ap (name_at names.pins) (sym same) ∙ number_at names.pins q j g in
                    absurd (cc)
        by (Some q) (Some r) e f =
            let g = lost r f in
            let same : q ≡ r = some_is (sym e ∙ g) in
            rw (e, f) (same_on k q ∙ ap (λ z. on_row k (row_by frame names.insts names.nets rows.insts z)) same)

    pub gate_added : (pins_still : AreNumbers pins)
        → IsLinked (design_in frame (record names { insts = insts; pins = pins }) (record rows { insts = table; pins = pin_rows }) (record orders { insts = orders.insts ++ n ∷ [] }))
        → AreSound frame (record names { insts = insts; pins = pins }) (record rows { insts = table; pins = pin_rows }) (record orders { insts = orders.insts ++ n ∷ [] })
    gate_added pins_still linked = record {
      inst_names = λ k j e. elim (eqb_tells n k) [
        | inl h ↦
            let f : (record { name = x; cell = cell; conns = [] }) ≡ j = some_is (ap (λ b. if b then Some (record { name = x; cell = cell; conns = [] }) else at rows.insts k) (sym h.0) ∙ sym (put k) ∙ e) in
            new k ∙ ap (λ b. if b then Some x else name_at names.insts k) h.0 ∙ ap (λ (y : Inst). Some y.name) f
        | inr h ↦
            new k ∙ ap (λ b. if b then Some x else name_at names.insts k) h.0
            ∙ s.inst_names k j (ap (λ b. if b then Some (record { name = x; cell = cell; conns = [] }) else at rows.insts k) (sym h.0) ∙ sym (put k) ∙ e)
      ];
      inst_numbers = λ k. ap is_some (new k) ∙ there (nat_eq n k) k ∙ ap is_some (sym (put k));
      rc_names = s.rc_names;
      insts_ordered = λ k.
          any_push n k orders.insts ∙ ap (λ b. if nat_eq n k then true else b) (s.insts_ordered k)
          ∙ pick (nat_eq n k) (name_at names.insts k) ∙ ap is_some (sym (new k));
      nets_ordered = s.nets_ordered;
      rcs_ordered = s.rcs_ordered;
      insts = still;
      nets = s.nets;
      pins = pins_still;
      pin_rows = rows_now;
      filled = filled;
      net_rows = λ k there.
          pins_alike (λ p. on_row k (option_and_then (row_by frame names.insts names.nets rows.insts) (name_at names.pins p))) (λ p. on_row k (option_and_then (row_by frame insts names.nets table) (name_at pins p)))
          (on_now k) (slice_get rows.net_pins k) (s.net_rows k there);
      linked = linked;
    }
      where
        pick : (b : Bool) (o : Option (List ℕ)) → (if b then true else is_some o) ≡ is_some (if b then Some x else o)
        pick true o = refl
        pick false o = refl

        there : (b : Bool) (k : ℕ) → is_some (if b then Some x else name_at names.insts k) ≡ is_some (if b then Some (record { name = x; cell = cell; conns = [] }) else at rows.insts k)
        there true k = refl
        there false k = s.inst_numbers k
