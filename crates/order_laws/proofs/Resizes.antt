-- Resizes of two instances commute.
use Rattle.std.proofs.Common.{◌≡◌, true, false, ℕ, List, [], ◌∷◌, Option, Some, None, is_some, Ok, refl, sym, ap, ◌∙◌, inl, inr, if◌then◌else◌}
use Rattle.std.specs.List.{list_all}
use Rattle.std.specs.Option.{option_map_or}
use Rattle.std.specs.Str.{bytes_eq}
use Rattle.std.proofs.lemmas.Bool.{cases_Bool}
use Rattle.std.proofs.lemmas.Slice.Eq.{bytes_eq-Decides}
use Rattle.timing_defs.specs.declared.netlist.Inst.{Inst}
use Rattle.timing_defs.specs.declared.design.Design.{Design}
use Rattle.timing_defs.specs.declared.edits.Edit.{Edit}
use Rattle.timing_defs.specs.declared.edits.Edit.TheVariants.{Repower}
use Rattle.timing_defs.specs.declared.edits.Eco.{Eco}
use Rattle.timing_defs.specs.declared.faults.Fault.{Fault}
use Rattle.timing_defs.specs.declared.faults.Fault.TheVariants.{UnknownInstance, PinsDiffer}
use Rattle.timing_defs.specs.Edits.{inst_named, cell_for, unless, first_fault, need_cell, keeps_pin, edit_faults, on_inst, changed, edit_by, edited_list, edited}
use Rattle.order_laws.proofs.Folds.{Swapped}

abbrev with_cell : List ℕ → Inst → Inst
with_cell cell i = record { name = i.name; cell = cell; conns = i.conns }

-- an instance behind a resize of the named one
abbrev resized : List ℕ → List ℕ → Inst → Inst
resized name cell i = (if bytes_eq i.name name then with_cell cell i else i)

other_name : (a b n : List ℕ) → (a ≡ b → ⊥) → n ≡ b → bytes_eq n a ≡ false
other_name a b n apart e = elim (cases_Bool (bytes_eq n a)) [
  | inl same ↦ absurd (apart (sym ((bytes_eq-Decides n a).0 same) ∙ e))
  | inr off ↦ off
]

-- another instance is what it was
named_other : (a b cell : List ℕ) → (a ≡ b → ⊥) → (insts : List Inst) → inst_named (on_inst b (with_cell cell) insts) a ≡ inst_named insts a
named_other a b cell apart [] = refl
named_other a b cell apart (i ∷ insts) = elim (cases_Bool (bytes_eq i.name b)) [
  | inl e ↦
      let off : bytes_eq i.name a ≡ false = other_name a b i.name apart ((bytes_eq-Decides i.name b).0 e) in
      rw (e, off) (named_other a b cell apart insts)
  | inr e ↦ rw e (ap (λ rest. if bytes_eq i.name a then Some i else rest) (named_other a b cell apart insts))
]

-- two resizes of one instance of a list, in both orders
both_resized : (a b p q : List ℕ) → (a ≡ b → ⊥) → (i : Inst) → resized a p (resized b q i) ≡ resized b q (resized a p i)
both_resized a b p q apart i = elim (cases_Bool (bytes_eq i.name b)) [
  | inl e ↦
      let off : bytes_eq i.name a ≡ false = other_name a b i.name apart ((bytes_eq-Decides i.name b).0 e) in
      rw (e, off, e) refl
  | inr e ↦ elim (cases_Bool (bytes_eq i.name a)) [
    | inl f ↦ rw (e, f, e) refl
    | inr f ↦ rw (e, f, e) refl
  ]
]

insts_swapped : (a b p q : List ℕ) → (a ≡ b → ⊥) → (insts : List Inst)
    → on_inst a (with_cell p) (on_inst b (with_cell q) insts) ≡ on_inst b (with_cell q) (on_inst a (with_cell p) insts)
insts_swapped a b p q apart [] = refl
insts_swapped a b p q apart (i ∷ insts) = cc (both_resized a b p q apart i, insts_swapped a b p q apart insts)

-- a resize of another instance leaves the faults of a resize
faults_kept : (d : Design) (a b p q : List ℕ) → (a ≡ b → ⊥) → edit_faults (changed d (Repower b q)) (Repower a p) ≡ edit_faults d (Repower a p)
faults_kept d a b p q apart = ap faults_at (named_other a b q apart d.insts)
  where
    faults_at : Option Inst → List (Option Fault)
    faults_at o =
        unless (is_some o) (UnknownInstance a) ∷ need_cell d p
        ∷ unless (option_map_or (λ i. option_map_or (λ c. list_all (keeps_pin d i c) i.conns) (cell_for d p) true) o true) (PinsDiffer a) ∷ []

-- an edit that has no fault
record Clear (fault : Option Fault) (d : Design) (e : Edit) (end : Design) : Type 0 where
  none : fault ≡ None
  now : changed d e ≡ end

clear : (fault : Option Fault) (d : Design) (e : Edit) (end : Design) → edited_list (edit_by fault d e) [] ≡ Ok end → Clear fault d e end
clear None d e end h = record { none = refl; now = cc }
clear (Some x) d e end h = cc

cleared : (fault : Option Fault) (d : Design) (e : Edit) → fault ≡ None → edited_list (edit_by fault d e) [] ≡ Ok (changed d e)
cleared fault d e none = rw none refl

-- an ECO that resizes an instance
abbrev pub resize_of : List ℕ → List ℕ → Eco
resize_of inst cell = record { edits = Repower inst cell ∷ [] }

pub resizes_commute : (a b p q : List ℕ) → (a ≡ b → ⊥) → (d m end : Design)
    → edited d (resize_of a p) ≡ Ok m → edited m (resize_of b q) ≡ Ok end → Swapped edited d (resize_of a p) (resize_of b q) end
resizes_commute a b p q apart d m end one two =
    let first = clear (first_fault (edit_faults d (Repower a p))) d (Repower a p) m one in
    let second = clear (first_fault (edit_faults m (Repower b q))) m (Repower b q) end two in
    let back : b ≡ a → ⊥ = λ e. apart (sym e) in
    let none_b : first_fault (edit_faults d (Repower b q)) ≡ None =
    ap first_fault (sym (faults_kept d b a q p back))
    ∙ ap (λ x. first_fault (edit_faults x (Repower b q))) first.now ∙ second.none in
    let none_a : first_fault (edit_faults (changed d (Repower b q)) (Repower a p)) ≡ None =
    ap first_fault (faults_kept d a b p q apart) ∙ first.none in
    let last : changed (changed d (Repower b q)) (Repower a p) ≡ end =
    ap (λ insts. record d { insts = insts }) (insts_swapped a b p q apart d.insts)
    ∙ ap (λ x. changed x (Repower b q)) first.now ∙ second.now in
    record {
      at = changed d (Repower b q);
      first = cleared (first_fault (edit_faults d (Repower b q))) d (Repower b q) none_b;
      second = cleared (first_fault (edit_faults (changed d (Repower b q)) (Repower a p))) (changed d (Repower b q)) (Repower a p) none_a ∙ ap Ok last;
    }
