-- The tables of nets, as a net comes or goes.

use Rattle.std.proofs.Common.{◌≡◌, ◌≢◌, ℕ, Bool, true, false, List, [], ◌∷◌, ◌++◌, filter, Option, None, Some, refl, sym, ap, subst, ◌∙◌, inl, inr, not}
use Rattle.std.specs.Prelude.{nat_eq, option_and_then, option_map, is_some, slice_get, if◌then◌else◌}
use Rattle.std.specs.List.{filter_map}
use Rattle.std.specs.Option.{option_map_or}
use Rattle.std.specs.Str.{bytes_eq}
use Rattle.std.proofs.lemmas.Bool.{cases_Bool, false≢true, true≢false, eq-eqb}
use Rattle.std.proofs.lemmas.Bool.Decides.{eqb_tells}
use Rattle.timing_defs.specs.Netlist.{Pin, net_of, pin_named}
use Rattle.timing_defs.specs.Edits.{net_in_use}
use Rattle.netlist_store.specs.declared.tables.Frame.{Frame}
use Rattle.netlist_store.specs.declared.tables.Names.{Names}
use Rattle.netlist_store.specs.declared.tables.Orders.{Orders}
use Rattle.netlist_store.specs.declared.tables.Rows.{Rows}
use Rattle.netlist_store.specs.Numbering.{name_at, number_of, is_number, AreNumbers}
use Rattle.netlist_store.specs.Linked.{IsLinked}
use Rattle.netlist_store.specs.Stores.{at, design_in, stored_in}
use Rattle.netlist_store.proofs.ShardLaws.{same_is}
use Rattle.netlist_store.proofs.NumberLaws.{number_at}
use Rattle.netlist_store.proofs.NumberEdits.{number_new, number_gone}
use Rattle.netlist_store.proofs.InOrder.{same_rows, removed_row}
use Rattle.netlist_store.proofs.InUse.{then_some, used_by}
use Rattle.netlist_store.proofs.RcEdits.{same_number, in_filter, any_filter, any_push, map_push}
use Rattle.netlist_store.proofs.Sound.{AreSound, HasPins, on_row, row_by, row_of, pin_by, look_in, pin_found, net_there, sound_tables}

-- lists of pins by tests that agree
pub pins_alike : (on after : ℕ → Bool) → ((p : ℕ) → after p ≡ on p) → (o : Option (List ℕ)) → HasPins on o → HasPins after o
pins_alike on after same None h = h
pins_alike on after same (Some pins) h = λ p. h p ∙ ap (λ b. if b then 1 else 0) (sym (same p))

pub no_pins : (on : ℕ → Bool) → ((p : ℕ) → on p ≡ false) → (o : Option (List ℕ)) → o ≡ Some [] → HasPins on o
no_pins on none o e = subst (HasPins on) (sym e) (λ p. ap (λ b. if b then 1 else 0) (sym (none p)))

module _ (frame : Frame) (names : Names) (rows : Rows) (orders : Orders) (s : AreSound frame names rows orders)
    (nets : List (Option (List ℕ))) (still : AreNumbers nets) where
  -- the rows of pins stay where the nets of pins keep their numbers
  row_same : ((q : List ℕ) (pin : Pin) (net : List ℕ) → pin_named (design_in frame names rows orders) q ≡ Some pin → net_of pin ≡ Some net
      → number_of nets net ≡ number_of names.nets net)
      → (q : List ℕ) → row_by frame names.insts nets rows.insts q ≡ row_by frame names.insts names.nets rows.insts q
  row_same same q = by (pin_by frame.ports frame.late.cells (look_in names.insts rows.insts) q) (pin_found frame names rows orders s q)
    where
      net : (pin : Pin) → pin_named (design_in frame names rows orders) q ≡ Some pin → (o : Option (List ℕ)) → net_of pin ≡ o
          → option_and_then (number_of nets) o ≡ option_and_then (number_of names.nets) o
      net pin found None e = refl
      net pin found (Some x) e = same q pin x found e

      by : (o : Option Pin) → pin_named (design_in frame names rows orders) q ≡ o
          → option_map (row_of names.insts nets) o ≡ option_map (row_of names.insts names.nets) o
      by None found = refl
      by (Some pin) found =
          ap (λ n. Some (record { owner = option_and_then (λ inst. number_of names.insts inst.name) pin.owner; net = n; dir = pin.dir }))
          (net pin found (net_of pin) refl)

  module _ (net : List ℕ) (m : ℕ) where
    -- a net comes
    module _ (new : (k : ℕ) → name_at nets k ≡ (if nat_eq m k then Some net else name_at names.nets k)) (gap : name_at names.nets m ≡ None)
        (fresh : number_of names.nets net ≡ None) where
      added_number : (q : List ℕ) → number_of nets q ≡ (if bytes_eq q net then Some m else number_of names.nets q)
      added_number = number_new names.nets nets s.nets still m net new gap

      other_number : (q : List ℕ) → is_some (number_of names.nets q) ≡ true → number_of nets q ≡ number_of names.nets q
      other_number q there = elim (cases_Bool (bytes_eq q net)) [
        | inl h ↦ absurd (true≢false (sym there ∙ ap is_some (ap (number_of names.nets) (same_is q net h) ∙ fresh)))
        | inr h ↦ added_number q ∙ ap (λ b. if b then Some m else number_of names.nets q) h
      ]

      added_row : (q : List ℕ) → row_by frame names.insts nets rows.insts q ≡ row_by frame names.insts names.nets rows.insts q
      added_row = row_same (λ q pin x found on.
          other_number x (ap (λ o. is_some (option_and_then (number_of names.nets) o)) (sym on) ∙ net_there frame names rows orders s q pin found ∙ ap is_some on))

      other_gap : (k : ℕ) → is_some (name_at names.nets k) ≡ true → nat_eq m k ≡ false
      other_gap k there = elim (eqb_tells m k) [
        | inl h ↦ absurd (true≢false (sym there ∙ ap is_some (ap (name_at names.nets) (sym h.1) ∙ gap)))
        | inr h ↦ h.0
      ]

      pub nets_pushed : filter_map (name_at nets) (orders.nets ++ m ∷ []) ≡ filter_map (name_at names.nets) orders.nets ++ net ∷ []
      nets_pushed =
          map_push (name_at nets) orders.nets m net (new m ∙ ap (λ b. if b then Some net else name_at names.nets m) (eq-eqb m m refl))
          ∙ ap (λ xs. xs ++ net ∷ [])
          (same_rows (name_at names.nets) (name_at nets) orders.nets
          (λ k h. new k ∙ ap (λ b. if b then Some net else name_at names.nets k) (other_gap k (sym (s.nets_ordered k) ∙ h))))

      off : (p : ℕ) → on_row m (option_and_then (row_by frame names.insts nets rows.insts) (name_at names.pins p)) ≡ false
      off p = by (name_at names.pins p)
        where
          unnumbered : (o : Option (List ℕ)) (r : Option ℕ) → option_and_then (number_of names.nets) o ≡ r → option_map_or (nat_eq m) r false ≡ false
          unnumbered o None e = refl
          unnumbered o (Some k) e =
              let x = then_some (number_of names.nets) o k e in
              other_gap k (ap is_some (number_at names.nets x.0 k x.2))

          row : (o : Option Pin) → on_row m (option_map (row_of names.insts names.nets) o) ≡ false
          row None = refl
          row (Some pin) = unnumbered (net_of pin) (option_and_then (number_of names.nets) (net_of pin)) refl

          by : (o : Option (List ℕ)) → on_row m (option_and_then (row_by frame names.insts nets rows.insts) o) ≡ false
          by None = refl
          by (Some q) = ap (on_row m) (added_row q) ∙ row (pin_by frame.ports frame.late.cells (look_in names.insts rows.insts) q)

      same_on : (k p : ℕ) → on_row k (option_and_then (row_by frame names.insts nets rows.insts) (name_at names.pins p))
          ≡ on_row k (option_and_then (row_by frame names.insts names.nets rows.insts) (name_at names.pins p))
      same_on k p = by (name_at names.pins p)
        where
          by : (o : Option (List ℕ)) → on_row k (option_and_then (row_by frame names.insts nets rows.insts) o)
              ≡ on_row k (option_and_then (row_by frame names.insts names.nets rows.insts) o)
          by None = refl
          by (Some q) = ap (on_row k) (added_row q)

      pub net_added : (lists : List (List ℕ)) → slice_get lists m ≡ Some []
          → ((k : ℕ) (xs : List ℕ) → k ≢ m → slice_get rows.net_pins k ≡ Some xs → slice_get lists k ≡ Some xs)
          → IsLinked (design_in frame (record names { nets = nets }) (record rows { net_pins = lists }) (record orders { nets = orders.nets ++ m ∷ [] }))
          → AreSound frame (record names { nets = nets }) (record rows { net_pins = lists }) (record orders { nets = orders.nets ++ m ∷ [] })
      net_added lists empty kept linked = record {
        inst_names = s.inst_names;
        inst_numbers = s.inst_numbers;
        rc_names = λ n rc e.
            new n ∙ ap (λ b. if b then Some net else name_at names.nets n) (other_gap n (ap is_some (s.rc_names n rc e))) ∙ s.rc_names n rc e;
        insts_ordered = s.insts_ordered;
        nets_ordered = λ n.
            any_push m n orders.nets ∙ ap (λ b. if nat_eq m n then true else b) (s.nets_ordered n)
            ∙ pick (nat_eq m n) (name_at names.nets n) ∙ ap is_some (sym (new n));
        rcs_ordered = s.rcs_ordered;
        insts = s.insts;
        nets = still;
        pins = s.pins;
        pin_rows = λ q. s.pin_rows q ∙ sym (added_row q);
        filled = s.filled;
        net_rows = λ k there. elim (eqb_tells m k) [
          | inl h ↦ subst (λ j. HasPins (λ p. on_row j (option_and_then (row_by frame names.insts nets rows.insts) (name_at names.pins p))) (slice_get lists j)) h.1
              (no_pins (λ p. on_row m (option_and_then (row_by frame names.insts nets rows.insts) (name_at names.pins p))) off (slice_get lists m) empty)
          | inr h ↦
              let was : is_number names.nets k ≡ true = sym (ap is_some (new k ∙ ap (λ b. if b then Some net else name_at names.nets k) h.0)) ∙ there in
              old k h.1 (slice_get rows.net_pins k) refl (s.net_rows k was)
        ];
        linked = linked;
      }
        where
          pick : (b : Bool) (o : Option (List ℕ)) → (if b then true else is_some o) ≡ is_some (if b then Some net else o)
          pick true o = refl
          pick false o = refl

          old : (k : ℕ) → m ≢ k → (o : Option (List ℕ)) → slice_get rows.net_pins k ≡ o
              → HasPins (λ p. on_row k (option_and_then (row_by frame names.insts names.nets rows.insts) (name_at names.pins p))) o
              → HasPins (λ p. on_row k (option_and_then (row_by frame names.insts nets rows.insts) (name_at names.pins p))) (slice_get lists k)
          old k apart None e h = absurd h
          old k apart (Some xs) e h =
              subst (HasPins (λ p. on_row k (option_and_then (row_by frame names.insts nets rows.insts) (name_at names.pins p))))
              (sym (kept k xs (λ same. apart (sym same)) e))
              (pins_alike (λ p. on_row k (option_and_then (row_by frame names.insts names.nets rows.insts) (name_at names.pins p)))
              (λ p. on_row k (option_and_then (row_by frame names.insts nets rows.insts) (name_at names.pins p))) (same_on k) (Some xs) h)

    -- a net goes
    module _ (gone : (k : ℕ) → name_at nets k ≡ (if nat_eq m k then None else name_at names.nets k)) (here : number_of names.nets net ≡ Some m)
        (unused : net_in_use (design_in frame names rows orders) net ≡ false) (bare : at rows.rcs m ≡ None) where
      left_number : (q : List ℕ) → number_of nets q ≡ (if bytes_eq q net then None else number_of names.nets q)
      left_number = number_gone names.nets nets s.nets still m net gone (number_at names.nets net m here)

      left_row : (q : List ℕ) → row_by frame names.insts nets rows.insts q ≡ row_by frame names.insts names.nets rows.insts q
      left_row = row_same (λ q pin x found on. elim (cases_Bool (bytes_eq x net)) [
        | inl h ↦
            absurd (true≢false (sym (used_by (stored_in frame names rows orders) (sound_tables frame names rows orders s).numbered s.linked net m here q pin found (on ∙ ap Some (same_is x net h))) ∙ unused))
        | inr h ↦ left_number x ∙ ap (λ b. if b then None else number_of names.nets x) h
      ])

      left_on : (k p : ℕ) → on_row k (option_and_then (row_by frame names.insts nets rows.insts) (name_at names.pins p))
          ≡ on_row k (option_and_then (row_by frame names.insts names.nets rows.insts) (name_at names.pins p))
      left_on k p = by (name_at names.pins p)
        where
          by : (o : Option (List ℕ)) → on_row k (option_and_then (row_by frame names.insts nets rows.insts) o)
              ≡ on_row k (option_and_then (row_by frame names.insts names.nets rows.insts) o)
          by None = refl
          by (Some q) = ap (on_row k) (left_row q)

      pub nets_left : filter_map (name_at nets) (filter (λ k. not (nat_eq m k)) orders.nets)
          ≡ filter (λ n. not (bytes_eq n net)) (filter_map (name_at names.nets) orders.nets)
      nets_left =
          same_rows (name_at names.nets) (name_at nets) (filter (λ k. not (nat_eq m k)) orders.nets)
          (λ n h. gone n ∙ ap (λ b. if b then None else name_at names.nets n) (in_filter m n orders.nets h))
          ∙ removed_row (name_at names.nets) (λ n. not (bytes_eq n net)) m orders.nets
          (λ k x e. ap not (same_number names.nets s.nets net m here k x e))

      pub net_left : IsLinked (design_in frame (record names { nets = nets }) rows (record orders { nets = filter (λ k. not (nat_eq m k)) orders.nets }))
          → AreSound frame (record names { nets = nets }) rows (record orders { nets = filter (λ k. not (nat_eq m k)) orders.nets })
      net_left linked = record {
        inst_names = s.inst_names;
        inst_numbers = s.inst_numbers;
        rc_names = λ n rc e. elim (eqb_tells m n) [
          | inl h ↦ let f : None ≡ Some rc = sym bare ∙ ap (at rows.rcs) h.1 ∙ e in absurd (cc)
          | inr h ↦ gone n ∙ ap (λ b. if b then None else name_at names.nets n) h.0 ∙ s.rc_names n rc e
        ];
        insts_ordered = s.insts_ordered;
        nets_ordered = λ n.
            any_filter m n orders.nets ∙ ap (λ b. if nat_eq m n then false else b) (s.nets_ordered n)
            ∙ pick (nat_eq m n) (name_at names.nets n) ∙ ap is_some (sym (gone n));
        rcs_ordered = s.rcs_ordered;
        insts = s.insts;
        nets = still;
        pins = s.pins;
        pin_rows = λ q. s.pin_rows q ∙ sym (left_row q);
        filled = s.filled;
        net_rows = λ k there.
            pins_alike (λ p. on_row k (option_and_then (row_by frame names.insts names.nets rows.insts) (name_at names.pins p)))
            (λ p. on_row k (option_and_then (row_by frame names.insts nets rows.insts) (name_at names.pins p))) (left_on k) (slice_get rows.net_pins k)
            (s.net_rows k (was k there));
        linked = linked;
      }
        where
          pick : (b : Bool) (o : Option (List ℕ)) → (if b then false else is_some o) ≡ is_some (if b then None else o)
          pick true o = refl
          pick false o = refl

          was : (k : ℕ) → is_number nets k ≡ true → is_number names.nets k ≡ true
          was k there = by (nat_eq m k) (ap is_some (sym (gone k)) ∙ there)
            where
              by : (b : Bool) → is_some (if b then None else name_at names.nets k) ≡ true → is_some (name_at names.nets k) ≡ true
              by true h = absurd (false≢true h)
              by false h = h
