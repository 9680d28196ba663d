-- The tables of a store, as a pin of an instance joins another net or none.

use Rattle.std.proofs.Common.{◌≡◌, ◌≢◌, ℕ, ◌+◌, Bool, true, false, List, [], ◌∷◌, ◌++◌, filter, Option, None, Some, refl, sym, ap, subst, ◌∙◌, inl, inr, not, ◌⊎◌, add_assoc, zero-add, add-zero}
use Rattle.std.specs.Prelude.{nat_eq, find, option_and_then, option_map, is_some, count_by, slice_get, cond, if◌then◌else◌}
use Rattle.std.specs.Option.{option_map_or}
use Rattle.std.specs.Str.{bytes_eq}
use Rattle.std.proofs.lemmas.Bool.{cases_Bool, true≢false, eqb-true, eq-eqb, and_parts}
use Rattle.std.proofs.lemmas.Bool.Decides.{eqb_tells}
use Rattle.std.proofs.lemmas.List.Sums.{sum_by-cons}
use Rattle.timing_defs.specs.declared.library.CellPin.{CellPin}
use Rattle.timing_defs.specs.declared.netlist.Inst.{Inst}
use Rattle.timing_defs.specs.declared.netlist.Conn.{Conn}
use Rattle.timing_defs.specs.Netlist.{cell_pin, cell_pins, cell_named, conn_net}
use Rattle.timing_defs.specs.Edits.{has_colon, before_last, after_last}
use Rattle.netlist_store.specs.declared.tables.Frame.{Frame}
use Rattle.netlist_store.specs.declared.tables.Names.{Names}
use Rattle.netlist_store.specs.declared.tables.Orders.{Orders}
use Rattle.netlist_store.specs.declared.tables.PinRow.{PinRow}
use Rattle.netlist_store.specs.declared.tables.Rows.{Rows}
use Rattle.netlist_store.specs.Numbering.{name_at, number_of, is_number}
use Rattle.netlist_store.specs.Linked.{IsLinked}
use Rattle.netlist_store.specs.Stores.{at, design_in}
use Rattle.netlist_store.specs.Drafts.{joined_list, left_list, row_named}
use Rattle.netlist_store.proofs.ShardLaws.{same_is, same_self}
use Rattle.netlist_store.proofs.NumberLaws.{number_at, some_is}
use Rattle.netlist_store.proofs.ConnLaws.{some_of}
use Rattle.netlist_store.proofs.ListLaws.{found_passes}
use Rattle.netlist_store.proofs.WordLaws.{whole_word}
use Rattle.netlist_store.proofs.InUse.{map_some}
use Rattle.netlist_store.proofs.RcEdits.{same_number}
use Rattle.netlist_store.proofs.Sound.{AreSound, HasPins, on_row, row_by, row_of, row_from, own_pin, look_in}
use Rattle.netlist_store.proofs.InstEdits.{of_inst, look_put, row_edited}

-- how often a number stands, as one comes and as one goes
count_cons : (j x : ℕ) (xs : List ℕ) → count_by (nat_eq j) (x ∷ xs) ≡ cond (nat_eq j x) 1 0 + count_by (nat_eq j) xs
count_cons j x xs = sum_by-cons (λ y. cond (nat_eq j y) 1 0) x xs

count_push : (j p : ℕ) (xs : List ℕ) → count_by (nat_eq j) (xs ++ p ∷ []) ≡ count_by (nat_eq j) xs + (if nat_eq j p then 1 else 0)
count_push j p [] = elim (cases_Bool (nat_eq j p)) [ inl e ↦ rw e refl | inr e ↦ rw e refl ]
count_push j p (x ∷ xs) =
    count_cons j x (xs ++ p ∷ []) ∙ ap (λ c. cond (nat_eq j x) 1 0 + c) (count_push j p xs)
    ∙ sym (add_assoc (cond (nat_eq j x) 1 0) (count_by (nat_eq j) xs) (if nat_eq j p then 1 else 0))
    ∙ ap (λ c. c + (if nat_eq j p then 1 else 0)) (sym (count_cons j x xs))

count_gone : (j p : ℕ) (xs : List ℕ) → count_by (nat_eq j) (filter (λ a. not (nat_eq p a)) xs) ≡ (if nat_eq p j then 0 else count_by (nat_eq j) xs)
count_gone j p [] = elim (cases_Bool (nat_eq p j)) [ inl e ↦ rw e refl | inr e ↦ rw e refl ]
count_gone j p (x ∷ xs) =
    let rest = count_gone j p xs in
    elim (eqb_tells p x) [
      | inl e ↦ elim (cases_Bool (nat_eq p j)) [
        | inl f ↦ rw e.0 (rest ∙ rw f refl)
        | inr f ↦
            let other : nat_eq j x ≡ false = elim (eqb_tells j x) [ inl h ↦ absurd (true≢false (sym (eq-eqb p j (e.1 ∙ sym h.1)) ∙ f)) | inr h ↦ h.0 ] in
            let same : count_by (nat_eq j) (x ∷ xs) ≡ count_by (nat_eq j) xs =
            count_cons j x xs ∙ ap (λ b. cond b 1 0 + count_by (nat_eq j) xs) other ∙ zero-add (count_by (nat_eq j) xs) in
            rw e.0 (rest ∙ ap (λ c. if nat_eq p j then 0 else c) (sym same))
      ]
      | inr e ↦ elim (cases_Bool (nat_eq p j)) [
        | inl f ↦
            let other : nat_eq j x ≡ false = elim (eqb_tells j x) [ inl h ↦ absurd (e.1 (eqb-true p j f ∙ h.1)) | inr h ↦ h.0 ] in
            let same : count_by (nat_eq j) (x ∷ filter (λ a. not (nat_eq p a)) xs) ≡ count_by (nat_eq j) (filter (λ a. not (nat_eq p a)) xs) =
            count_cons j x (filter (λ a. not (nat_eq p a)) xs)
            ∙ ap (λ b. cond b 1 0 + count_by (nat_eq j) (filter (λ a. not (nat_eq p a)) xs)) other
            ∙ zero-add (count_by (nat_eq j) (filter (λ a. not (nat_eq p a)) xs)) in
            rw e.0 (same ∙ rest ∙ rw f refl)
        | inr f ↦
            let same : count_by (nat_eq j) (filter (λ a. not (nat_eq p a)) xs) ≡ count_by (nat_eq j) xs = rest ∙ rw f refl in
            rw e.0 (rw f (count_cons j x (filter (λ a. not (nat_eq p a)) xs) ∙ ap (λ c. cond (nat_eq j x) 1 0 + c) same ∙ sym (count_cons j x xs)))
      ]
    ]

abbrev has_it : ℕ → Option ℕ → Bool
has_it k o = option_map_or (nat_eq k) o false

module _ (frame : Frame) (names : Names) (rows : Rows) (orders : Orders) (s : AreSound frame names rows orders)
    (w : List ℕ) (colon : has_colon w ≡ true) (n : ℕ) (here : number_of names.insts (before_last w) ≡ Some n) (i : Inst) (its : at rows.insts n ≡ Some i)
    (conns : List Conn) (new : Option (List ℕ)) (nets : (q : List ℕ) → conn_net conns q ≡ (if bytes_eq q (after_last w) then new else conn_net i.conns q))
    (table : List (Option Inst)) (put : (k : ℕ) → at table k ≡ (if nat_eq n k then Some (record { name = i.name; cell = i.cell; conns = conns }) else at rows.insts k))
    (p : ℕ) (numbered : number_of names.pins w ≡ Some p) (r : PinRow) (its_row : slice_get rows.pins p ≡ Some r)
    (to : Option ℕ) (its_net : to ≡ option_and_then (number_of names.nets) new) (pins : List PinRow)
    (pin_put : slice_get pins p ≡ Some (record { owner = r.owner; net = to; dir = r.dir }))
    (pin_kept : (k : ℕ) (y : PinRow) → k ≢ p → slice_get rows.pins k ≡ Some y → slice_get pins k ≡ Some y) where
  read_now : (q : List ℕ) → row_named names.pins pins q ≡ (if bytes_eq q w then Some (record { owner = r.owner; net = to; dir = r.dir }) else row_named names.pins rows.pins q)
  read_now q = by (number_of names.pins q) refl
    where
      by : (o : Option ℕ) → number_of names.pins q ≡ o
          → option_and_then (slice_get pins) o ≡ (if bytes_eq q w then Some (record { owner = r.owner; net = to; dir = r.dir }) else option_and_then (slice_get rows.pins) o)
      by None e = elim (cases_Bool (bytes_eq q w)) [
        | inl h ↦ let f : number_of names.pins q ≡ Some p = ap (number_of names.pins) (same_is q w h) ∙ numbered in absurd (cc)
        | inr h ↦ rw h refl
      ]
      by (Some k) e =
          let stands : name_at names.pins k ≡ Some q = number_at names.pins q k e in
          let same : bytes_eq q w ≡ nat_eq p k = same_number names.pins s.pins w p numbered k q stands in
          elim (eqb_tells p k) [
            | inl h ↦ rw (same ∙ h.0) (ap (slice_get pins) (sym h.1) ∙ pin_put)
            | inr h ↦
                let y = some_of (slice_get rows.pins k) (s.filled k (ap is_some stands)) in
                rw (same ∙ h.0) (pin_kept k y.0 (λ e. h.1 (sym e)) y.1 ∙ sym y.1)
          ]

  look_old : look_in names.insts rows.insts (before_last w) ≡ Some i
  look_old = ap (option_and_then (at rows.insts)) here ∙ its

  row_old : row_by frame names.insts names.nets rows.insts w ≡ Some r
  row_old = sym (s.pin_rows w) ∙ ap (option_and_then (slice_get rows.pins)) numbered ∙ its_row

  old_pin : (cp : CellPin) × (find (λ pin. bytes_eq pin.name (after_last w)) (cell_pins (cell_named frame.late.cells i.cell)) ≡ Some cp) × (row_of names.insts names.nets (cell_pin i cp) ≡ r)
  old_pin =
      let g : row_by frame names.insts names.nets rows.insts w ≡ option_map (row_of names.insts names.nets) (option_map (cell_pin i) (find (λ pin. bytes_eq pin.name (after_last w)) (cell_pins (cell_named frame.late.cells i.cell)))) =
      rw colon (ap (λ o. option_map (row_of names.insts names.nets) (option_and_then (own_pin frame.late.cells (after_last w)) o)) look_old) in
      let pin = map_some (row_of names.insts names.nets) (option_map (cell_pin i) (find (λ pin. bytes_eq pin.name (after_last w)) (cell_pins (cell_named frame.late.cells i.cell)))) r (sym g ∙ row_old) in
      let cp = map_some (cell_pin i) (find (λ pin. bytes_eq pin.name (after_last w)) (cell_pins (cell_named frame.late.cells i.cell))) pin.0 pin.1 in
      (cp.0, cp.1, ap (row_of names.insts names.nets) cp.2 ∙ pin.2)

  edited : (q : List ℕ) → row_by frame names.insts names.nets table q
      ≡ (if of_inst (before_last w) q then option_map (row_of names.insts names.nets) (own_pin frame.late.cells (after_last q) (record { name = i.name; cell = i.cell; conns = conns }))
      else row_by frame names.insts names.nets rows.insts q)
  edited =
      row_edited frame names rows orders s (before_last w) names.insts table (Some (record { name = i.name; cell = i.cell; conns = conns })) (λ q e. refl)
      (look_put frame names rows orders s (before_last w) n here table (Some (record { name = i.name; cell = i.cell; conns = conns })) put)

  row_now : row_by frame names.insts names.nets table w ≡ Some (record { owner = r.owner; net = to; dir = r.dir })
  row_now =
      let cp = old_pin in
      let own : of_inst (before_last w) w ≡ true = rw colon (same_self (before_last w)) in
      let called : bytes_eq cp.0.name (after_last w) ≡ true = found_passes (λ pin. bytes_eq pin.name (after_last w)) (cell_pins (cell_named frame.late.cells i.cell)) cp.0 cp.1 in
      let net : conn_net conns cp.0.name ≡ new = nets cp.0.name ∙ ap (λ b. if b then new else conn_net i.conns cp.0.name) called in
      edited w
      ∙ ap (λ b. if b then option_map (row_of names.insts names.nets) (own_pin frame.late.cells (after_last w) (record { name = i.name; cell = i.cell; conns = conns })) else row_by frame names.insts names.nets rows.insts w) own
      ∙ ap (λ o. option_map (row_of names.insts names.nets) (option_map (cell_pin (record { name = i.name; cell = i.cell; conns = conns })) o)) cp.1
      ∙ ap Some (row_from (row_of names.insts names.nets (cell_pin (record { name = i.name; cell = i.cell; conns = conns }) cp.0)) r.owner to r.dir
      (ap (λ (y : PinRow). y.owner) cp.2) (ap (option_and_then (number_of names.nets)) net ∙ sym its_net) (ap (λ (y : PinRow). y.dir) cp.2))

  other_row : (q : List ℕ) → bytes_eq q w ≡ false → row_by frame names.insts names.nets table q ≡ row_by frame names.insts names.nets rows.insts q
  other_row q other = edited q ∙ by (cases_Bool (of_inst (before_last w) q))
    where
      same_net : (o : Option CellPin) → ((cp : CellPin) → o ≡ Some cp → conn_net conns cp.name ≡ conn_net i.conns cp.name)
          → option_map (row_of names.insts names.nets) (option_map (cell_pin (record { name = i.name; cell = i.cell; conns = conns })) o) ≡ option_map (row_of names.insts names.nets) (option_map (cell_pin i) o)
      same_net None h = refl
      same_net (Some cp) h =
          ap (λ net. Some (record { owner = number_of names.insts i.name; net = option_and_then (number_of names.nets) net; dir = cp.dir })) (h cp refl)

      by : (of_inst (before_last w) q ≡ true) ⊎ (of_inst (before_last w) q ≡ false)
          → (if of_inst (before_last w) q then option_map (row_of names.insts names.nets) (own_pin frame.late.cells (after_last q) (record { name = i.name; cell = i.cell; conns = conns }))
          else row_by frame names.insts names.nets rows.insts q) ≡ row_by frame names.insts names.nets rows.insts q
      by (inr h) = rw h refl
      by (inl h) =
          let k = and_parts (has_colon q) (bytes_eq (before_last q) (before_last w)) h in
          let same : before_last q ≡ before_last w = same_is (before_last q) (before_last w) k.1 in
          let apart : bytes_eq (after_last q) (after_last w) ≡ false = elim (cases_Bool (bytes_eq (after_last q) (after_last w))) [
            | inl e ↦
                let whole : q ≡ w =
                sym (whole_word q k.0) ∙ ap (λ xs. xs ++ 58 ∷ after_last q) same ∙ ap (λ ys. before_last w ++ 58 ∷ ys) (same_is (after_last q) (after_last w) e)
                ∙ whole_word w colon in
                absurd (true≢false (sym (same_self w) ∙ ap (λ z. bytes_eq z w) (sym whole) ∙ other))
            | inr e ↦ e
          ] in
          let was : row_by frame names.insts names.nets rows.insts q ≡ option_map (row_of names.insts names.nets) (own_pin frame.late.cells (after_last q) i) =
          rw k.0 (ap (λ o. option_map (row_of names.insts names.nets) (option_and_then (own_pin frame.late.cells (after_last q)) o))
          (ap (look_in names.insts rows.insts) same ∙ look_old)) in
          ap (λ b. if b then option_map (row_of names.insts names.nets) (own_pin frame.late.cells (after_last q) (record { name = i.name; cell = i.cell; conns = conns })) else row_by frame names.insts names.nets rows.insts q) h
          ∙ same_net (find (λ pin. bytes_eq pin.name (after_last q)) (cell_pins (cell_named frame.late.cells i.cell)))
          (λ cp e. nets cp.name ∙ ap (λ b. if b then new else conn_net i.conns cp.name)
          (ap (λ z. bytes_eq z (after_last w))
          (same_is cp.name (after_last q) (found_passes (λ pin. bytes_eq pin.name (after_last q)) (cell_pins (cell_named frame.late.cells i.cell)) cp e)) ∙ apart))
          ∙ sym was

  rows_now : (q : List ℕ) → row_named names.pins pins q ≡ row_by frame names.insts names.nets table q
  rows_now q = read_now q ∙ by (cases_Bool (bytes_eq q w))
    where
      by : (bytes_eq q w ≡ true) ⊎ (bytes_eq q w ≡ false)
          → (if bytes_eq q w then Some (record { owner = r.owner; net = to; dir = r.dir }) else row_named names.pins rows.pins q) ≡ row_by frame names.insts names.nets table q
      by (inl e) =
          ap (λ b. if b then Some (record { owner = r.owner; net = to; dir = r.dir }) else row_named names.pins rows.pins q) e ∙ sym row_now
          ∙ ap (row_by frame names.insts names.nets table) (sym (same_is q w e))
      by (inr e) =
          ap (λ b. if b then Some (record { owner = r.owner; net = to; dir = r.dir }) else row_named names.pins rows.pins q) e ∙ s.pin_rows q ∙ sym (other_row q e)

  still_filled : (k : ℕ) → is_number names.pins k ≡ true → is_some (slice_get pins k) ≡ true
  still_filled k there = elim (eqb_tells p k) [
    | inl h ↦ ap (λ j. is_some (slice_get pins j)) (sym h.1) ∙ ap is_some pin_put
    | inr h ↦ let y = some_of (slice_get rows.pins k) (s.filled k there) in ap is_some (pin_kept k y.0 (λ e. h.1 (sym e)) y.1)
  ]

  stands : name_at names.pins p ≡ Some w
  stands = number_at names.pins w p numbered

  on_now : (k j : ℕ) → on_row k (option_and_then (row_by frame names.insts names.nets table) (name_at names.pins j))
      ≡ (if nat_eq p j then has_it k to else on_row k (option_and_then (row_by frame names.insts names.nets rows.insts) (name_at names.pins j)))
  on_now k j = elim (eqb_tells p j) [
    | inl h ↦
        ap (λ m. on_row k (option_and_then (row_by frame names.insts names.nets table) (name_at names.pins m))) (sym h.1)
        ∙ ap (λ o. on_row k (option_and_then (row_by frame names.insts names.nets table) o)) stands ∙ ap (on_row k) row_now
        ∙ sym (ap (λ b. if b then has_it k to else on_row k (option_and_then (row_by frame names.insts names.nets rows.insts) (name_at names.pins j))) h.0)
    | inr h ↦
        by (name_at names.pins j) refl h.0
        ∙ sym (ap (λ b. if b then has_it k to else on_row k (option_and_then (row_by frame names.insts names.nets rows.insts) (name_at names.pins j))) h.0)
  ]
    where
      by : (o : Option (List ℕ)) → name_at names.pins j ≡ o → nat_eq p j ≡ false
          → on_row k (option_and_then (row_by frame names.insts names.nets table) (name_at names.pins j)) ≡ on_row k (option_and_then (row_by frame names.insts names.nets rows.insts) (name_at names.pins j))
      by None e apart = rw e refl
      by (Some q) e apart = rw e (ap (on_row k) (other_row q (same_number names.pins s.pins w p numbered j q e ∙ apart)))

  was_on : (k : ℕ) → on_row k (option_and_then (row_by frame names.insts names.nets rows.insts) (name_at names.pins p)) ≡ has_it k r.net
  was_on k = ap (λ o. on_row k (option_and_then (row_by frame names.insts names.nets rows.insts) o)) stands ∙ ap (on_row k) row_old

  moved_pins : (k : ℕ) (xs : List ℕ) → HasPins (λ j. on_row k (option_and_then (row_by frame names.insts names.nets rows.insts) (name_at names.pins j))) (Some xs)
      → HasPins (λ j. on_row k (option_and_then (row_by frame names.insts names.nets table) (name_at names.pins j))) (Some (joined_list to p k (left_list r.net p k xs)))
  moved_pins k xs old j = joined (has_it k to) refl ∙ ap (λ b. if b then 1 else 0) (sym (on_now k j))
    where
      left : (b : Bool) → has_it k r.net ≡ b → count_by (nat_eq j) (left_list r.net p k xs) ≡ (if nat_eq p j then 0 else count_by (nat_eq j) xs)
      left true e = rw e (count_gone j p xs)
      left false e = rw e (elim (eqb_tells p j) [
        | inl h ↦
            rw h.0 (old j ∙ ap (λ b. if b then 1 else 0)
            (ap (λ m. on_row k (option_and_then (row_by frame names.insts names.nets rows.insts) (name_at names.pins m))) (sym h.1) ∙ was_on k ∙ e))
        | inr h ↦ rw h.0 refl
      ])

      last : (b : Bool) → has_it k to ≡ b → count_by (nat_eq j) (joined_list to p k (left_list r.net p k xs))
          ≡ count_by (nat_eq j) (left_list r.net p k xs) + (if b then (if nat_eq j p then 1 else 0) else 0)
      last true e = rw e (count_push j p (left_list r.net p k xs))
      last false e = rw e (sym (add-zero (count_by (nat_eq j) (left_list r.net p k xs))))

      total : (b : Bool) → (if nat_eq p j then 0 else count_by (nat_eq j) xs) + (if b then (if nat_eq j p then 1 else 0) else 0)
          ≡ (if (if nat_eq p j then b else on_row k (option_and_then (row_by frame names.insts names.nets rows.insts) (name_at names.pins j))) then 1 else 0)
      total b = elim (eqb_tells p j) [
        | inl h ↦ rw (h.0, eq-eqb j p (sym h.1)) (one b)
        | inr h ↦
            let apart : nat_eq j p ≡ false = elim (eqb_tells j p) [ inl g ↦ absurd (h.1 (sym g.1)) | inr g ↦ g.0 ] in
            rw (h.0, apart) (none b ∙ old j)
      ]
        where
          one : (b : Bool) → 0 + (if b then 1 else 0) ≡ (if b then 1 else 0)
          one true = refl
          one false = refl

          none : (b : Bool) → count_by (nat_eq j) xs + (if b then 0 else 0) ≡ count_by (nat_eq j) xs
          none true = add-zero (count_by (nat_eq j) xs)
          none false = add-zero (count_by (nat_eq j) xs)

      joined : (b : Bool) → has_it k to ≡ b → count_by (nat_eq j) (joined_list to p k (left_list r.net p k xs))
          ≡ (if (if nat_eq p j then has_it k to else on_row k (option_and_then (row_by frame names.insts names.nets rows.insts) (name_at names.pins j))) then 1 else 0)
      joined b e =
          last b e ∙ ap (λ c. c + (if b then (if nat_eq j p then 1 else 0) else 0)) (left (has_it k r.net) refl) ∙ total b
          ∙ ap (λ c. if (if nat_eq p j then c else on_row k (option_and_then (row_by frame names.insts names.nets rows.insts) (name_at names.pins j))) then 1 else 0) (sym e)

  pub rejoined : (lists : List (List ℕ))
      → ((k : ℕ) (xs : List ℕ) → slice_get rows.net_pins k ≡ Some xs → slice_get lists k ≡ Some (joined_list to p k (left_list r.net p k xs)))
      → IsLinked (design_in frame names (record rows { insts = table; net_pins = lists; pins = pins }) orders)
      → AreSound frame names (record rows { insts = table; net_pins = lists; pins = pins }) orders
  rejoined lists lists_put linked = record {
    inst_names = λ k j e. elim (eqb_tells n k) [
      | inl h ↦
          let f : (record { name = i.name; cell = i.cell; conns = conns }) ≡ j = some_is (ap (λ b. if b then Some (record { name = i.name; cell = i.cell; conns = conns }) else at rows.insts k) (sym h.0) ∙ sym (put k) ∙ e) in
          ap (name_at names.insts) (sym h.1) ∙ s.inst_names n i its ∙ ap (λ (y : Inst). Some y.name) f
      | inr h ↦ s.inst_names k j (ap (λ b. if b then Some (record { name = i.name; cell = i.cell; conns = conns }) else at rows.insts k) (sym h.0) ∙ sym (put k) ∙ e)
    ];
    inst_numbers = λ k. s.inst_numbers k ∙ there k (eqb_tells n k) ∙ ap is_some (sym (put k));
    rc_names = s.rc_names;
    insts_ordered = s.insts_ordered;
    nets_ordered = s.nets_ordered;
    rcs_ordered = s.rcs_ordered;
    insts = s.insts;
    nets = s.nets;
    pins = s.pins;
    pin_rows = rows_now;
    filled = still_filled;
    net_rows = λ k here. moved k (slice_get rows.net_pins k) refl (s.net_rows k here);
    linked = linked;
  }
    where
      there : (k : ℕ) → (((nat_eq n k ≡ true) × (n ≡ k)) ⊎ ((nat_eq n k ≡ false) × (n ≢ k)))
          → is_some (at rows.insts k) ≡ is_some (if nat_eq n k then Some (record { name = i.name; cell = i.cell; conns = conns }) else at rows.insts k)
      there k (inl h) = rw h.0 (ap (λ m. is_some (at rows.insts m)) (sym h.1) ∙ ap is_some its)
      there k (inr h) = rw h.0 refl

      moved : (k : ℕ) (o : Option (List ℕ)) → slice_get rows.net_pins k ≡ o
          → HasPins (λ j. on_row k (option_and_then (row_by frame names.insts names.nets rows.insts) (name_at names.pins j))) o
          → HasPins (λ j. on_row k (option_and_then (row_by frame names.insts names.nets table) (name_at names.pins j))) (slice_get lists k)
      moved k None e h = absurd h
      moved k (Some xs) e h =
          subst (HasPins (λ j. on_row k (option_and_then (row_by frame names.insts names.nets table) (name_at names.pins j)))) (sym (lists_put k xs e)) (moved_pins k xs h)
