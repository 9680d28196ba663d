-- The tables of instances and the rows of pins, as one instance changes, comes or goes.

use Rattle.std.proofs.Common.{◌≡◌, ℕ, Bool, true, false, List, Option, None, Some, refl, sym, ap, ◌∙◌, inl, inr}
use Rattle.std.specs.Prelude.{◌&&◌, nat_eq, find, option_and_then, option_map, if◌then◌else◌}
use Rattle.std.specs.List.{filter_map}
use Rattle.std.specs.Str.{bytes_eq}
use Rattle.std.proofs.lemmas.Bool.{cases_Bool, eqb-true}
use Rattle.std.proofs.lemmas.Bool.Decides.{eqb_tells}
use Rattle.timing_defs.specs.declared.netlist.Port.{Port}
use Rattle.timing_defs.specs.declared.netlist.Inst.{Inst}
use Rattle.timing_defs.specs.declared.library.CellPin.{CellPin}
use Rattle.timing_defs.specs.Netlist.{net_of, port_pin, cell_pin, cell_pins, cell_named}
use Rattle.timing_defs.specs.Edits.{has_colon, before_last, after_last, on_inst}
use Rattle.netlist_store.specs.declared.tables.Frame.{Frame}
use Rattle.netlist_store.specs.declared.tables.Names.{Names}
use Rattle.netlist_store.specs.declared.tables.Orders.{Orders}
use Rattle.netlist_store.specs.declared.tables.Rows.{Rows}
use Rattle.netlist_store.specs.Numbering.{number_of}
use Rattle.netlist_store.specs.Stores.{at}
use Rattle.netlist_store.proofs.ShardLaws.{same_is}
use Rattle.netlist_store.proofs.NumberLaws.{number_at, some_is}
use Rattle.netlist_store.proofs.InOrder.{changed_rows}
use Rattle.netlist_store.proofs.InUse.{then_some}
use Rattle.netlist_store.proofs.RcEdits.{same_number}
use Rattle.netlist_store.proofs.Sound.{AreSound, row_by, row_of, own_pin, look_in}

-- the pins of an instance go by names with its own before the last colon
abbrev pub of_inst : List ℕ → List ℕ → Bool
of_inst x q = has_colon q && bytes_eq (before_last q) x

module _ (frame : Frame) (names : Names) (rows : Rows) (orders : Orders) (s : AreSound frame names rows orders) where
  -- an instance goes by its name
  pub look_name : (q : List ℕ) (i : Inst) → look_in names.insts rows.insts q ≡ Some i → i.name ≡ q
  look_name q i e =
      let n = then_some (at rows.insts) (number_of names.insts q) i e in
      some_is (sym (s.inst_names n.0 i n.2) ∙ number_at names.insts q n.0 n.1)

  -- one row is written
  module _ (x : List ℕ) (n : ℕ) (here : number_of names.insts x ≡ Some n) (table : List (Option Inst)) (v : Option Inst)
      (put : (k : ℕ) → at table k ≡ (if nat_eq n k then v else at rows.insts k)) where
    pub look_put : (q : List ℕ) → look_in names.insts table q ≡ (if bytes_eq q x then v else look_in names.insts rows.insts q)
    look_put q = by (number_of names.insts q) refl
      where
        by : (o : Option ℕ) → number_of names.insts q ≡ o
            → option_and_then (at table) o ≡ (if bytes_eq q x then v else option_and_then (at rows.insts) o)
        by None e = elim (cases_Bool (bytes_eq q x)) [
          | inl h ↦ let f : number_of names.insts q ≡ Some n = ap (number_of names.insts) (same_is q x h) ∙ here in absurd (cc)
          | inr h ↦ rw h refl
        ]
        by (Some k) e =
            let same : bytes_eq q x ≡ nat_eq n k = same_number names.insts s.insts x n here k q (number_at names.insts q k e) in
            put k ∙ ap (λ b. if b then v else at rows.insts k) (sym same)

    pub insts_changed : (change : Inst → Inst) (i : Inst) → at rows.insts n ≡ Some i → v ≡ Some (change i)
        → filter_map (at table) orders.insts ≡ on_inst x change (filter_map (at rows.insts) orders.insts)
    insts_changed change i found new =
        changed_rows (at rows.insts) (at table) (λ i. if bytes_eq i.name x then change i else i) orders.insts (λ k. by k (at rows.insts k) refl)
      where
        pick : (b : Bool) (j : Inst) → (if b then Some (change j) else Some j) ≡ Some (if b then change j else j)
        pick true j = refl
        pick false j = refl

        by : (k : ℕ) (o : Option Inst) → at rows.insts k ≡ o → at table k ≡ option_map (λ i. if bytes_eq i.name x then change i else i) (at rows.insts k)
        by k None e = elim (eqb_tells n k) [
          | inl h ↦ let f : at rows.insts k ≡ Some i = ap (at rows.insts) (sym h.1) ∙ found in absurd (cc)
          | inr h ↦
              put k ∙ ap (λ b. if b then v else at rows.insts k) h.0 ∙ e
              ∙ sym (ap (option_map (λ i. if bytes_eq i.name x then change i else i)) e)
        ]
        by k (Some j) e =
            let same : bytes_eq j.name x ≡ nat_eq n k = same_number names.insts s.insts x n here k j.name (s.inst_names k j e) in
            let its : nat_eq n k ≡ true → v ≡ Some (change j) =
            λ h. new ∙ ap (λ y. Some (change y)) (some_is (sym found ∙ ap (at rows.insts) (eqb-true n k h) ∙ e)) in
            put k ∙ ap (λ o. if nat_eq n k then v else o) e ∙ either (nat_eq n k) j its ∙ pick (nat_eq n k) j
            ∙ ap (λ b. Some (if b then change j else j)) (sym same) ∙ sym (ap (option_map (λ i. if bytes_eq i.name x then change i else i)) e)
          where
            either : (b : Bool) (j : Inst) → (b ≡ true → v ≡ Some (change j)) → (if b then v else Some j) ≡ (if b then Some (change j) else Some j)
            either true j h = h refl
            either false j h = refl

  -- the rows of pins, where one instance is another
  module _ (x : List ℕ) (insts : List (Option (List ℕ))) (table : List (Option Inst)) (v : Option Inst)
      (others : (q : List ℕ) → bytes_eq q x ≡ false → number_of insts q ≡ number_of names.insts q)
      (look : (q : List ℕ) → look_in insts table q ≡ (if bytes_eq q x then v else look_in names.insts rows.insts q)) where
    pub row_edited : (q : List ℕ) → row_by frame insts names.nets table q
        ≡ (if of_inst x q then option_map (row_of insts names.nets) (option_and_then (own_pin frame.late.cells (after_last q)) v)
        else row_by frame names.insts names.nets rows.insts q)
    row_edited q = elim (cases_Bool (has_colon q)) [
      | inl colon ↦ elim (cases_Bool (bytes_eq (before_last q) x)) [
        | inl e ↦
            rw colon (rw e (ap (λ o. option_map (row_of insts names.nets) (option_and_then (own_pin frame.late.cells (after_last q)) o))
            (look (before_last q) ∙ ap (λ b. if b then v else look_in names.insts rows.insts (before_last q)) e)))
        | inr e ↦
            rw colon (rw e (ap (λ o. option_map (row_of insts names.nets) (option_and_then (own_pin frame.late.cells (after_last q)) o))
            (look (before_last q) ∙ ap (λ b. if b then v else look_in names.insts rows.insts (before_last q)) e)
            ∙ same_owner e (look_in names.insts rows.insts (before_last q)) refl))
      ]
      | inr plain ↦ rw plain (of_port (find (λ p. bytes_eq p.name q) frame.ports))
    ]
      where
        of_port : (o : Option Port) → option_map (row_of insts names.nets) (option_map port_pin o) ≡ option_map (row_of names.insts names.nets) (option_map port_pin o)
        of_port None = refl
        of_port (Some p) = refl

        same_owner : bytes_eq (before_last q) x ≡ false → (o : Option Inst) → look_in names.insts rows.insts (before_last q) ≡ o
            → option_map (row_of insts names.nets) (option_and_then (own_pin frame.late.cells (after_last q)) o)
            ≡ option_map (row_of names.insts names.nets) (option_and_then (own_pin frame.late.cells (after_last q)) o)
        same_owner apart None e = refl
        same_owner apart (Some i) e =
            owned i (others i.name (ap (λ z. bytes_eq z x) (look_name (before_last q) i e) ∙ apart))
            (find (λ pin. bytes_eq pin.name (after_last q)) (cell_pins (cell_named frame.late.cells i.cell)))
          where
            owned : (i : Inst) → number_of insts i.name ≡ number_of names.insts i.name → (o : Option CellPin)
                → option_map (row_of insts names.nets) (option_map (cell_pin i) o) ≡ option_map (row_of names.insts names.nets) (option_map (cell_pin i) o)
            owned i number None = refl
            owned i number (Some cp) =
                ap (λ n. Some (record { owner = n; net = option_and_then (number_of names.nets) (net_of (cell_pin i cp)); dir = cp.dir })) number
