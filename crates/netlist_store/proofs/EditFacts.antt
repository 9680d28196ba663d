-- What is there where an edit has no fault.

use Rattle.std.proofs.Common.{◌≡◌, ℕ, true, false, List, [], ◌∷◌, Option, None, Some, refl, sym, ap, ◌∙◌, inl, inr, not}
use Rattle.std.specs.Prelude.{find, option_and_then, option_map, is_some, is_none}
use Rattle.std.specs.Option.{option_map_or}
use Rattle.std.specs.Str.{bytes_eq}
use Rattle.std.proofs.lemmas.Bool.{cases_Bool, false≢true, not-true}
use Rattle.timing_defs.specs.declared.kinds.Split.TheVariants.{Late}
use Rattle.timing_defs.specs.declared.library.CellPin.{CellPin}
use Rattle.timing_defs.specs.declared.parasitics.NetRc.{NetRc}
use Rattle.timing_defs.specs.declared.design.Design.{Design}
use Rattle.timing_defs.specs.declared.edits.Edit.TheVariants.{Repower, InsertGate, RemoveGate, InsertNet, RemoveNet, Connect, Disconnect, SetParasitics}
use Rattle.timing_defs.specs.declared.faults.Fault.TheVariants.{UnknownInstance, UnknownNet, UnknownCell, UnknownPin, NameTaken, PinsDiffer, InUse, AlreadyConnected, NotConnected}
use Rattle.timing_defs.specs.Netlist.{net_of, cell_pin, cell_pins, cell_of, pin_at, pin_named, conn_net, is_listed}
use Rattle.timing_defs.specs.Edits.{inst_named, has_colon, before_last, after_last, word_direction, word_net, net_in_use, edit_faults, first_fault, need_inst, need_cell, fits_cell, cell_for, free_inst, is_open, need_pin_inst, need_net, need_pin, free_net, unless, without_rc, direction_in}
use Rattle.netlist_store.specs.Numbering.{Stored, name_at, number_of, pin_numbered, net_number, IsNumbered}
use Rattle.netlist_store.specs.Linked.{IsLinked}
use Rattle.netlist_store.proofs.ShardLaws.{same_is}
use Rattle.netlist_store.proofs.NumberLaws.{number_at}
use Rattle.netlist_store.proofs.LinkLaws.{no_fault, holds_unless}
use Rattle.netlist_store.proofs.ConnLaws.{some_of}
use Rattle.netlist_store.proofs.ListLaws.{found_passes}
use Rattle.netlist_store.proofs.PinsByWord.{pin_by_word}
use Rattle.netlist_store.proofs.InUse.{then_some, map_some}
use Rattle.netlist_store.proofs.JoinSteps.{stands}
use Rattle.netlist_store.proofs.Sound.{its_net}

-- a pin word with a direction names a pin
pub word_colon : (d : Design) (w : List ℕ) → is_some (word_direction d w) ≡ true → has_colon w ≡ true
word_colon d w h = elim (cases_Bool (has_colon w)) [
  | inl e ↦ e
  | inr e ↦ let f : false ≡ true = rw e at h in absurd (false≢true f)
]

pub word_pin : (d : Design) → IsLinked d → (w : List ℕ) → is_some (word_direction d w) ≡ true → is_some (pin_named d w) ≡ true
word_pin d linked w h =
    let colon = word_colon d w h in
    let g : is_some (option_and_then (λ i. option_and_then (λ cell. direction_in cell (after_last w)) (cell_of d Late i)) (inst_named d.insts (before_last w))) ≡ true =
    rw colon at h in
    let dir = some_of (option_and_then (λ i. option_and_then (λ cell. direction_in cell (after_last w)) (cell_of d Late i)) (inst_named d.insts (before_last w))) g in
    let i = then_some (λ i. option_and_then (λ cell. direction_in cell (after_last w)) (cell_of d Late i)) (inst_named d.insts (before_last w)) dir.0 dir.1 in
    let c = then_some (λ cell. direction_in cell (after_last w)) (cell_of d Late i.0) dir.0 i.2 in
    let p = map_some (λ (p : CellPin). p.dir) (find (λ p. bytes_eq p.name (after_last w)) c.0.pins) dir.0 c.2 in
    ap is_some
    (pin_by_word d linked w colon ∙ ap (option_and_then (λ i. pin_at d i (after_last w))) i.1
    ∙ ap (λ o. option_map (cell_pin i.0) (find (λ p. bytes_eq p.name (after_last w)) (cell_pins o))) c.1
    ∙ ap (option_map (cell_pin i.0)) p.1)

pub none_of : {X : Type 0} (o : Option X) → is_none o ≡ true → o ≡ None
none_of None h = refl
none_of (Some x) h = absurd (false≢true h)

-- what the checks of an edit have found
module _ (d : Design) where
  pub rc_listed : (net : List ℕ) (rc : Option NetRc) → first_fault (edit_faults d (SetParasitics net rc)) ≡ None → is_listed d.nets net ≡ true
  rc_listed net rc none = holds_unless (is_listed d.nets net) (UnknownNet net) (no_fault (need_net d net) [] none).0

  pub net_absent : (net : List ℕ) → first_fault (edit_faults d (InsertNet net)) ≡ None → is_listed d.nets net ≡ false
  net_absent net none =
      not-true (is_listed d.nets net) (holds_unless (not (is_listed d.nets net)) (NameTaken net) (no_fault (free_net d net) [] none).0)

  pub left_listed : (net : List ℕ) → first_fault (edit_faults d (RemoveNet net)) ≡ None → is_listed d.nets net ≡ true
  left_listed net none =
      holds_unless (is_listed d.nets net) (UnknownNet net) (no_fault (need_net d net) (unless (not (net_in_use d net)) (InUse net) ∷ []) none).0

  pub left_free : (net : List ℕ) → first_fault (edit_faults d (RemoveNet net)) ≡ None → net_in_use d net ≡ false
  left_free net none =
      let one = no_fault (need_net d net) (unless (not (net_in_use d net)) (InUse net) ∷ []) none in
      not-true (net_in_use d net) (holds_unless (not (net_in_use d net)) (InUse net) (no_fault (unless (not (net_in_use d net)) (InUse net)) [] one.1).0)

  pub joins_word : (w net : List ℕ) → first_fault (edit_faults d (Connect w net)) ≡ None → is_some (word_direction d w) ≡ true
  joins_word w net none =
      let free = unless (is_none (word_net d w)) (AlreadyConnected w) in
      let one = no_fault (need_pin_inst d w) (need_net d net ∷ need_pin d w ∷ free ∷ []) none in
      let two = no_fault (need_net d net) (need_pin d w ∷ free ∷ []) one.1 in
      holds_unless (is_some (word_direction d w)) (UnknownPin w) (no_fault (need_pin d w) (free ∷ []) two.1).0

  pub joins_listed : (w net : List ℕ) → first_fault (edit_faults d (Connect w net)) ≡ None → is_listed d.nets net ≡ true
  joins_listed w net none =
      let free = unless (is_none (word_net d w)) (AlreadyConnected w) in
      let one = no_fault (need_pin_inst d w) (need_net d net ∷ need_pin d w ∷ free ∷ []) none in
      holds_unless (is_listed d.nets net) (UnknownNet net) (no_fault (need_net d net) (need_pin d w ∷ free ∷ []) one.1).0

  pub leaves_word : (w : List ℕ) → first_fault (edit_faults d (Disconnect w)) ≡ None → is_some (word_direction d w) ≡ true
  leaves_word w none =
      let on = unless (is_some (word_net d w)) (NotConnected w) in
      let one = no_fault (need_pin_inst d w) (need_pin d w ∷ on ∷ []) none in
      holds_unless (is_some (word_direction d w)) (UnknownPin w) (no_fault (need_pin d w) (on ∷ []) one.1).0

  pub leaves_on : (w : List ℕ) → first_fault (edit_faults d (Disconnect w)) ≡ None → is_some (word_net d w) ≡ true
  leaves_on w none =
      let on = unless (is_some (word_net d w)) (NotConnected w) in
      let one = no_fault (need_pin_inst d w) (need_pin d w ∷ on ∷ []) none in
      let two = no_fault (need_pin d w) (on ∷ []) one.1 in
      holds_unless (is_some (word_net d w)) (NotConnected w) (no_fault on [] two.1).0

  -- of instances
  pub other_there : (inst cell : List ℕ) → first_fault (edit_faults d (Repower inst cell)) ≡ None → is_some (inst_named d.insts inst) ≡ true
  other_there inst cell none =
      holds_unless (is_some (inst_named d.insts inst)) (UnknownInstance inst)
      (no_fault (need_inst d inst) (need_cell d cell ∷ unless (fits_cell d inst cell) (PinsDiffer inst) ∷ []) none).0

  pub other_usable : (inst cell : List ℕ) → first_fault (edit_faults d (Repower inst cell)) ≡ None → is_some (cell_for d cell) ≡ true
  other_usable inst cell none =
      let one = no_fault (need_inst d inst) (need_cell d cell ∷ unless (fits_cell d inst cell) (PinsDiffer inst) ∷ []) none in
      holds_unless (is_some (cell_for d cell)) (UnknownCell cell)
      (no_fault (need_cell d cell) (unless (fits_cell d inst cell) (PinsDiffer inst) ∷ []) one.1).0

  pub comes_usable : (inst cell : List ℕ) → first_fault (edit_faults d (InsertGate inst cell)) ≡ None → is_some (cell_for d cell) ≡ true
  comes_usable inst cell none =
      holds_unless (is_some (cell_for d cell)) (UnknownCell cell) (no_fault (need_cell d cell) (free_inst d inst ∷ []) none).0

  pub comes_free : (inst cell : List ℕ) → first_fault (edit_faults d (InsertGate inst cell)) ≡ None → inst_named d.insts inst ≡ None
  comes_free inst cell none =
      let one = no_fault (need_cell d cell) (free_inst d inst ∷ []) none in
      none_of (inst_named d.insts inst) (holds_unless (is_none (inst_named d.insts inst)) (NameTaken inst) (no_fault (free_inst d inst) [] one.1).0)

  pub goes_there : (inst : List ℕ) → first_fault (edit_faults d (RemoveGate inst)) ≡ None → is_some (inst_named d.insts inst) ≡ true
  goes_there inst none =
      holds_unless (is_some (inst_named d.insts inst)) (UnknownInstance inst)
      (no_fault (need_inst d inst) (unless (option_map_or is_open (inst_named d.insts inst) true) (InUse inst) ∷ []) none).0

  pub goes_open : (inst : List ℕ) → first_fault (edit_faults d (RemoveGate inst)) ≡ None → option_map_or is_open (inst_named d.insts inst) true ≡ true
  goes_open inst none =
      let one = no_fault (need_inst d inst) (unless (option_map_or is_open (inst_named d.insts inst) true) (InUse inst) ∷ []) none in
      holds_unless (option_map_or is_open (inst_named d.insts inst) true) (InUse inst)
      (no_fault (unless (option_map_or is_open (inst_named d.insts inst) true) (InUse inst)) [] one.1).0

module _ (s : Stored) (numbered : IsNumbered s) (linked : IsLinked s.design) where
  -- the net of a pin by its word and by its number
  pub net_by_word : (w : List ℕ) (p : ℕ) → has_colon w ≡ true → number_of s.pins w ≡ Some p → option_and_then net_of (pin_numbered s p) ≡ word_net s.design w
  net_by_word w p colon e =
      let st = stands s numbered linked w p colon e in
      let row : pin_numbered s p ≡ Some (cell_pin st.inst st.own) = ap (option_and_then (pin_named s.design)) (number_at s.pins w p e) ∙ st.pin in
      let own : st.own.name ≡ after_last w =
      same_is st.own.name (after_last w) (found_passes (λ p. bytes_eq p.name (after_last w)) (cell_pins (cell_of s.design Late st.inst)) st.own st.found) in
      ap (option_and_then net_of) row ∙ ap (conn_net st.inst.conns) own ∙ sym (ap (option_and_then (λ i. conn_net i.conns (after_last w))) st.named)

  -- the name of its number
  pub net_is_named : (w : List ℕ) (p n : ℕ) (name : List ℕ) → has_colon w ≡ true → number_of s.pins w ≡ Some p → net_number s p ≡ Some n
      → name_at s.nets n ≡ Some name → word_net s.design w ≡ Some name
  net_is_named w p n name colon e on stands_at =
      let x = then_some (number_of s.nets) (option_and_then net_of (pin_numbered s p)) n on in
      sym (net_by_word w p colon e) ∙ x.1 ∙ sym (number_at s.nets x.0 n x.2) ∙ stands_at

-- the net of a pin word is there
pub word_listed : (d : Design) → IsLinked d → (w net : List ℕ) → word_net d w ≡ Some net → is_listed d.nets net ≡ true
word_listed d linked w net on =
    let i = then_some (λ i. conn_net i.conns (after_last w)) (inst_named d.insts (before_last w)) net on in
    its_net d linked (before_last w) i.0 i.1 (after_last w) net i.2

-- no parasitics of a net are left
pub no_rc_left : (net : List ℕ) (rcs : List NetRc) → find (λ rc. bytes_eq rc.net net) (without_rc net rcs) ≡ None
no_rc_left net [] = refl
no_rc_left net (rc ∷ rcs) = elim (cases_Bool (bytes_eq rc.net net)) [
  | inl e ↦ rw e (no_rc_left net rcs)
  | inr e ↦ rw e (rw e (no_rc_left net rcs))
]
