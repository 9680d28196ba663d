-- The tables of a store, as a gate with open pins goes.

use Rattle.std.proofs.Common.{◌≡◌, ℕ, Bool, true, false, List, [], filter, Option, None, Some, refl, sym, ap, ◌∙◌, inl, inr, ◌⊎◌, not}
use Rattle.std.specs.Prelude.{◌&&◌, nat_eq, find, option_and_then, option_map, is_some, slice_get, if◌then◌else◌}
use Rattle.std.specs.List.{list_any, list_all, filter_map}
use Rattle.std.specs.Option.{option_map_or}
use Rattle.std.specs.Str.{bytes_eq}
use Rattle.std.proofs.lemmas.Bool.{cases_Bool, false≢true, true≢false}
use Rattle.std.proofs.lemmas.Bool.Decides.{eqb_tells}
use Rattle.timing_defs.specs.declared.library.CellPin.{CellPin}
use Rattle.timing_defs.specs.declared.netlist.Inst.{Inst}
use Rattle.timing_defs.specs.Netlist.{cell_pin, cell_pins, cell_named, conn_net}
use Rattle.timing_defs.specs.Edits.{after_last, is_open}
use Rattle.netlist_store.specs.declared.tables.Frame.{Frame}
use Rattle.netlist_store.specs.declared.tables.Names.{Names}
use Rattle.netlist_store.specs.declared.tables.Orders.{Orders}
use Rattle.netlist_store.specs.declared.tables.Rows.{Rows}
use Rattle.netlist_store.specs.Numbering.{name_at, number_of, AreNumbers}
use Rattle.netlist_store.specs.Linked.{IsLinked}
use Rattle.netlist_store.specs.Stores.{at, design_in}
use Rattle.netlist_store.specs.Drafts.{IsPart, row_named, is_lost}
use Rattle.netlist_store.proofs.NumberLaws.{number_at}
use Rattle.netlist_store.proofs.NumberEdits.{number_gone}
use Rattle.netlist_store.proofs.PinsByWord.{is_plain}
use Rattle.netlist_store.proofs.RcEdits.{same_number, in_filter, any_filter}
use Rattle.netlist_store.proofs.InOrder.{same_rows, removed_row}
use Rattle.netlist_store.proofs.NetEdits.{pins_alike}
use Rattle.netlist_store.proofs.Sound.{AreSound, on_row, row_by, row_of, look_in}
use Rattle.netlist_store.proofs.InstEdits.{of_inst, row_edited}
use Rattle.netlist_store.proofs.PinsOfInst.{has_own, lost_by_parts, row_left, part_filled}
use Rattle.netlist_store.proofs.PinsKept.{rows_kept, on_numbered}
use Rattle.netlist_store.proofs.InstPins.{open_net, on_own, row_was}

module _ (frame : Frame) (names : Names) (rows : Rows) (orders : Orders) (s : AreSound frame names rows orders)
    (x : List ℕ) (n : ℕ) (here : number_of names.insts x ≡ Some n) (i : Inst) (its : at rows.insts n ≡ Some i) (opened : is_open i ≡ true)
    (insts : List (Option (List ℕ))) (still : AreNumbers insts) (gone : (k : ℕ) → name_at insts k ≡ (if nat_eq n k then None else name_at names.insts k))
    (table : List (Option Inst)) (put : (k : ℕ) → at table k ≡ (if nat_eq n k then None else at rows.insts k)) where
  number_now : (q : List ℕ) → number_of insts q ≡ (if bytes_eq q x then None else number_of names.insts q)
  number_now = number_gone names.insts insts s.insts still n x gone (number_at names.insts x n here)

  others : (q : List ℕ) → bytes_eq q x ≡ false → number_of insts q ≡ number_of names.insts q
  others q h = number_now q ∙ ap (λ b. if b then None else number_of names.insts q) h

  look_now : (q : List ℕ) → look_in insts table q ≡ (if bytes_eq q x then None else look_in names.insts rows.insts q)
  look_now q = elim (cases_Bool (bytes_eq q x)) [
    | inl h ↦ rw h (ap (option_and_then (at table)) (number_now q ∙ ap (λ b. if b then None else number_of names.insts q) h))
    | inr h ↦ rw h (ap (option_and_then (at table)) (others q h) ∙ by h (number_of names.insts q) refl)
  ]
    where
      by : bytes_eq q x ≡ false → (o : Option ℕ) → number_of names.insts q ≡ o → option_and_then (at table) o ≡ option_and_then (at rows.insts) o
      by h None e = refl
      by h (Some k) e =
          put k
          ∙ ap (λ b. if b then None else at rows.insts k) (sym (same_number names.insts s.insts x n here k q (number_at names.insts q k e)) ∙ h)

  look_old : look_in names.insts rows.insts x ≡ Some i
  look_old = ap (option_and_then (at rows.insts)) here ∙ its

  pub insts_left : filter_map (at table) (filter (λ k. not (nat_eq n k)) orders.insts) ≡ filter (λ j. not (bytes_eq j.name x)) (filter_map (at rows.insts) orders.insts)
  insts_left =
      same_rows (at rows.insts) (at table) (filter (λ k. not (nat_eq n k)) orders.insts)
      (λ k h. put k ∙ ap (λ b. if b then None else at rows.insts k) (in_filter n k orders.insts h))
      ∙ removed_row (at rows.insts) (λ j. not (bytes_eq j.name x)) n orders.insts
      (λ k j e. ap not (same_number names.insts s.insts x n here k j.name (s.inst_names k j e)))

  edited : (q : List ℕ) → row_by frame insts names.nets table q ≡ (if of_inst x q then None else row_by frame names.insts names.nets rows.insts q)
  edited = row_edited frame names rows orders s x insts table None others look_now

  off_now : (k : ℕ) (q : List ℕ) → of_inst x q ≡ true → on_row k (row_by frame names.insts names.nets rows.insts q) ≡ false
  off_now k q h =
      let none : conn_net i.conns (after_last q) ≡ None = open_net i.conns opened (after_last q) in
      ap (on_row k) (row_was frame names.insts names.nets rows.insts x i look_old q h)
      ∙ on_own names.insts names.nets i (after_last q) k (cell_pins (cell_named frame.late.cells i.cell))
      (λ net e. let f : None ≡ Some net = sym none ∙ e in absurd (cc))
      ∙ ap (λ o. option_map_or (nat_eq k) (option_and_then (number_of names.nets) o) false) none

  same_on : (k : ℕ) (q : List ℕ) → on_row k (row_by frame insts names.nets table q) ≡ on_row k (row_by frame names.insts names.nets rows.insts q)
  same_on k q = elim (cases_Bool (of_inst x q)) [
    | inl h ↦
        ap (on_row k) (edited q ∙ ap (λ b. if b then None else row_by frame names.insts names.nets rows.insts q) h) ∙ sym (off_now k q h)
    | inr h ↦ ap (on_row k) (edited q ∙ ap (λ b. if b then None else row_by frame names.insts names.nets rows.insts q) h)
  ]

  module _ (ps : List CellPin) (ps_are : ps ≡ cell_pins (cell_named frame.late.cells i.cell)) (plain : list_all is_plain ps ≡ true)
      (pins : List (Option (List ℕ))) (are : AreNumbers pins) (part : IsPart pins names.pins)
      (lost : (q : List ℕ) → number_of pins q ≡ (if list_any (is_lost x [] q) ps then None else number_of names.pins q)) where
    not_lost : (q : List ℕ) → of_inst x q ≡ false → list_any (is_lost x [] q) ps ≡ false
    not_lost q h = lost_by_parts x [] ps plain q ∙ ap (λ b. b && (true && has_own (after_last q) ps)) h

    lost_own : (q : List ℕ) → of_inst x q ≡ true → list_any (is_lost x [] q) ps ≡ has_own (after_last q) ps
    lost_own q h = lost_by_parts x [] ps plain q ∙ ap (λ b. b && (true && has_own (after_last q) ps)) h

    none_own : (q : List ℕ) → of_inst x q ≡ true → has_own (after_last q) ps ≡ false → row_by frame names.insts names.nets rows.insts q ≡ None
    none_own q h f =
        row_was frame names.insts names.nets rows.insts x i look_old q h
        ∙ ap (λ zs. option_map (row_of names.insts names.nets) (option_map (cell_pin i) (find (λ p. bytes_eq p.name (after_last q)) zs))) (sym ps_are)
        ∙ by (find (λ p. bytes_eq p.name (after_last q)) ps) f
      where
        by : (o : Option CellPin) → is_some o ≡ false → option_map (row_of names.insts names.nets) (option_map (cell_pin i) o) ≡ None
        by None e = refl
        by (Some p) e = absurd (true≢false e)

    rows_now : (q : List ℕ) → row_named pins rows.pins q ≡ row_by frame insts names.nets table q
    rows_now q =
        row_left names.pins pins rows.pins (list_any (is_lost x [] q) ps) q (lost q)
        ∙ ap (λ o. if list_any (is_lost x [] q) ps then None else o) (s.pin_rows q) ∙ by (cases_Bool (of_inst x q)) ∙ sym (edited q)
      where
        pick : (b : Bool) → of_inst x q ≡ true → has_own (after_last q) ps ≡ b → (if b then None else row_by frame names.insts names.nets rows.insts q) ≡ None
        pick true h f = refl
        pick false h f = none_own q h f

        by : (of_inst x q ≡ true) ⊎ (of_inst x q ≡ false) → (if list_any (is_lost x [] q) ps then None else row_by frame names.insts names.nets rows.insts q)
            ≡ (if of_inst x q then None else row_by frame names.insts names.nets rows.insts q)
        by (inl h) =
            ap (λ b. if b then None else row_by frame names.insts names.nets rows.insts q) (lost_own q h) ∙ pick (has_own (after_last q) ps) h refl
            ∙ sym (ap (λ b. if b then None else row_by frame names.insts names.nets rows.insts q) h)
        by (inr h) =
            ap (λ b. if b then None else row_by frame names.insts names.nets rows.insts q) (not_lost q h)
            ∙ sym (ap (λ b. if b then None else row_by frame names.insts names.nets rows.insts q) h)

    kept_on : (k : ℕ) (q : List ℕ) (m : ℕ) → on_row k (row_by frame names.insts names.nets rows.insts q) ≡ true → number_of names.pins q ≡ Some m → number_of pins q ≡ Some m
    kept_on k q m on e = elim (cases_Bool (of_inst x q)) [
      | inl h ↦ absurd (false≢true (sym (off_now k q h) ∙ on))
      | inr h ↦ lost q ∙ ap (λ b. if b then None else number_of names.pins q) (not_lost q h) ∙ e
    ]

    pub gate_gone : IsLinked (design_in frame (record names { insts = insts; pins = pins }) (record rows { insts = table }) (record orders { insts = filter (λ k. not (nat_eq n k)) orders.insts }))
        → AreSound frame (record names { insts = insts; pins = pins }) (record rows { insts = table }) (record orders { insts = filter (λ k. not (nat_eq n k)) orders.insts })
    gate_gone linked = record {
      inst_names = λ k j e. elim (eqb_tells n k) [
        | inl h ↦ let f : None ≡ Some j = ap (λ b. if b then None else at rows.insts k) (sym h.0) ∙ sym (put k) ∙ e in absurd (cc)
        | inr h ↦
            gone k ∙ ap (λ b. if b then None else name_at names.insts k) h.0
            ∙ s.inst_names k j (ap (λ b. if b then None else at rows.insts k) (sym h.0) ∙ sym (put k) ∙ e)
      ];
      inst_numbers = λ k. ap is_some (gone k) ∙ there (nat_eq n k) k ∙ ap is_some (sym (put k));
      rc_names = s.rc_names;
      insts_ordered = λ k.
          any_filter n k orders.insts ∙ ap (λ b. if nat_eq n k then false else b) (s.insts_ordered k)
          ∙ pick (nat_eq n k) (name_at names.insts k) ∙ ap is_some (sym (gone k));
      nets_ordered = s.nets_ordered;
      rcs_ordered = s.rcs_ordered;
      insts = still;
      nets = s.nets;
      pins = are;
      pin_rows = rows_now;
      filled = part_filled names.pins pins rows.pins s.filled part;
      net_rows = λ k there.
          pins_alike (λ p. on_row k (option_and_then (row_by frame names.insts names.nets rows.insts) (name_at names.pins p))) (λ p. on_row k (option_and_then (row_by frame insts names.nets table) (name_at pins p)))
          (rows_kept names.pins pins s.pins are k (row_by frame names.insts names.nets rows.insts) (row_by frame insts names.nets table) (same_on k)
          (on_numbered names.pins rows.pins k (row_by frame names.insts names.nets rows.insts) s.pin_rows) (kept_on k))
          (slice_get rows.net_pins k) (s.net_rows k there);
      linked = linked;
    }
      where
        pick : (b : Bool) (o : Option (List ℕ)) → (if b then false else is_some o) ≡ is_some (if b then None else o)
        pick true o = refl
        pick false o = refl

        there : (b : Bool) (k : ℕ) → is_some (if b then None else name_at names.insts k) ≡ is_some (if b then None else at rows.insts k)
        there true k = refl
        there false k = s.inst_numbers k
