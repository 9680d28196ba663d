-- What an edit touches, as it is gathered edit by edit.

use Rattle.std.proofs.Common.{◌≡◌, ℕ, suc, ◌+◌, ◌<◌, true, false, List, [], ◌∷◌, ◌++◌, length, get_or, take, drop, Option, None, Some, refl, sym, ap, ◌∙◌, inl, inr, append_assoc, append-nil, add-one, drop-cons}
use Rattle.std.specs.Prelude.{option_and_then, is_some, is_none}
use Rattle.std.specs.List.{filter_map}
use Rattle.std.specs.Str.{bytes_eq}
use Rattle.std.proofs.lemmas.Bool.{cases_Bool, false≢true}
use Rattle.std.proofs.lemmas.List.Elements.{filter_map-append}
use Rattle.timing_defs.specs.declared.netlist.Inst.{Inst}
use Rattle.timing_defs.specs.declared.netlist.Conn.{Conn}
use Rattle.timing_defs.specs.declared.design.Design.{Design}
use Rattle.timing_defs.specs.declared.edits.Edit.{Edit}
use Rattle.timing_defs.specs.declared.edits.Edit.TheVariants.{Repower, Connect, Disconnect}
use Rattle.timing_defs.specs.declared.faults.Fault.TheVariants.{UnknownInstance, UnknownPin, PinsDiffer, AlreadyConnected, NotConnected}
use Rattle.timing_defs.specs.Netlist.{cell_named}
use Rattle.timing_defs.specs.Edits.{inst_named, has_colon, before_last, after_last, word_direction, word_net, direction_in, edit_faults, first_fault, need_inst, need_cell, need_pin_inst, need_net, need_pin, fits_cell, unless, changed}
use Rattle.timing_defs.specs.Touches.{Touch, touched_by, touched_list}
use Rattle.netlist_store.specs.declared.touched.Touched.{Touched}
use Rattle.netlist_store.specs.Touching.{IsWord, touched_with}
use Rattle.netlist_store.proofs.ShardLaws.{same_is}
use Rattle.netlist_store.proofs.ListLaws.{found_passes}
use Rattle.netlist_store.proofs.LinkLaws.{no_fault, holds_unless}

-- an instance that is found by a name goes by it
pub named_inst : (insts : List Inst) (name : List ℕ) (inst : Inst) → inst_named insts name ≡ Some inst → inst.name ≡ name
named_inst insts name inst e = same_is inst.name name (found_passes (λ i. bytes_eq i.name name) insts inst e)

-- what is before the last colon names the instance that is found by it
pub owner_named : (insts : List Inst) (word bytes : List ℕ) (colon : ℕ) (found : Option Inst) (inst : Inst) → bytes ≡ word
    → take colon bytes ≡ before_last bytes → found ≡ inst_named insts (take colon bytes) → found ≡ Some inst → inst.name ≡ before_last word
owner_named insts word bytes colon found inst same before here is =
    named_inst insts (before_last word) inst (ap (inst_named insts) (sym (before ∙ ap before_last same)) ∙ sym here ∙ is)

-- where an edit has no fault, the instances that it names are there
then_there : {X Y : Type 0} (f : X → Option Y) (o : Option X) → is_some (option_and_then f o) ≡ true → is_some o ≡ true
then_there f None h = h
then_there f (Some x) h = refl

pin_word : (d : Design) (word : List ℕ) → is_some (word_direction d word) ≡ true → IsWord d word
pin_word d word h = elim (cases_Bool (has_colon word)) [
  | inl e ↦
      let g = rw e at h in
      record {
        colon = e;
        inst = then_there (λ (i : Inst). option_and_then (λ cell. direction_in cell (after_last word)) (cell_named d.late.cells i.cell)) (inst_named d.insts (before_last word)) g;
      }
  | inr e ↦ let f : false ≡ true = rw e at h in absurd (false≢true f)
]

pub repower_there : (d : Design) (inst cell : List ℕ) → first_fault (edit_faults d (Repower inst cell)) ≡ None → is_some (inst_named d.insts inst) ≡ true
repower_there d inst cell none =
    holds_unless (is_some (inst_named d.insts inst)) (UnknownInstance inst)
    (no_fault (need_inst d inst) (need_cell d cell ∷ unless (fits_cell d inst cell) (PinsDiffer inst) ∷ []) none).0

pub connect_word : (d : Design) (word net : List ℕ) → first_fault (edit_faults d (Connect word net)) ≡ None → IsWord d word
connect_word d word net none =
    let free = unless (is_none (word_net d word)) (AlreadyConnected word) in
    let one = no_fault (need_pin_inst d word) (need_net d net ∷ need_pin d word ∷ free ∷ []) none in
    let two = no_fault (need_net d net) (need_pin d word ∷ free ∷ []) one.1 in
    pin_word d word (holds_unless (is_some (word_direction d word)) (UnknownPin word) (no_fault (need_pin d word) (free ∷ []) two.1).0)

pub disconnect_word : (d : Design) (word : List ℕ) → first_fault (edit_faults d (Disconnect word)) ≡ None → IsWord d word
disconnect_word d word none =
    let on = unless (is_some (word_net d word)) (NotConnected word) in
    let one = no_fault (need_pin_inst d word) (need_pin d word ∷ on ∷ []) none in
    pin_word d word (holds_unless (is_some (word_direction d word)) (UnknownPin word) (no_fault (need_pin d word) (on ∷ []) one.1).0)

-- the nets of connections, as the loop has them
pub next_nets : (conns : List Conn) (i : ℕ) (conn : Conn) (before after whole : List (List ℕ)) → i < length conns → conn ≡ get_or conns i conn
    → after ≡ before ++ filter_map (λ (c : Conn). c.net) (conn ∷ []) → before ++ filter_map (λ (c : Conn). c.net) (drop i conns) ≡ whole
    → after ++ filter_map (λ (c : Conn). c.net) (drop (i + 1) conns) ≡ whole
next_nets conns i conn before after whole low here put had =
    ap (λ xs. xs ++ filter_map (λ (c : Conn). c.net) (drop (i + 1) conns)) put
    ∙ append_assoc before (filter_map (λ (c : Conn). c.net) (conn ∷ [])) (filter_map (λ (c : Conn). c.net) (drop (i + 1) conns))
    ∙ ap (λ xs. before ++ xs) (sym (filter_map-append (λ (c : Conn). c.net) (conn ∷ []) (drop (i + 1) conns)))
    ∙ ap (λ xs. before ++ filter_map (λ (c : Conn). c.net) xs) (sym next) ∙ had
  where
    next : drop i conns ≡ conn ∷ drop (i + 1) conns
    next = rw add-one (drop-cons conns i conn low ∙ ap (λ c. c ∷ drop (suc i) conns) (sym here))

-- one edit more is gathered
same_touch : (a b : Touch) → a.insts ≡ b.insts → a.nets ≡ b.nets → a ≡ b
same_touch a b e f = λ i. record { insts = e i; nets = f i }

pub touch_step : (old new : Touched) (d : Design) (e : Edit) → new.insts ≡ old.insts ++ (touched_by d e).insts → new.nets ≡ old.nets ++ (touched_by d e).nets
    → (edits : List Edit) → touched_with new (changed d e) edits ≡ touched_with old d (e ∷ edits)
touch_step old new d e insts nets edits =
    same_touch (touched_with new (changed d e) edits) (touched_with old d (e ∷ edits))
    (ap (λ xs. xs ++ (touched_list (changed d e) edits).insts) insts
    ∙ append_assoc old.insts (touched_by d e).insts (touched_list (changed d e) edits).insts)
    (ap (λ xs. xs ++ (touched_list (changed d e) edits).nets) nets
    ∙ append_assoc old.nets (touched_by d e).nets (touched_list (changed d e) edits).nets)

-- after the last edit
pub touch_end : (touched : Touched) (d : Design) → touched_with touched d [] ≡ record { insts = touched.insts; nets = touched.nets }
touch_end touched d =
    same_touch (touched_with touched d []) (record { insts = touched.insts; nets = touched.nets }) (append-nil touched.insts) (append-nil touched.nets)
