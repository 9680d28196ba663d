-- Each edit that has no fault keeps a design linked.

use Rattle.std.proofs.Common.{◌≡◌, true, List, [], ◌∷◌, Option, None, Some, refl, sym, ap, subst, ◌∙◌}
use Rattle.std.specs.Prelude.{Result, Ok, Err}
use Rattle.std.specs.List.{list_all}
use Rattle.std.proofs.lemmas.Bool.{and_parts}
use Rattle.timing_defs.specs.declared.design.Design.{Design}
use Rattle.timing_defs.specs.declared.edits.Edit.{Edit}
use Rattle.timing_defs.specs.declared.edits.Edit.TheVariants.{Repower, InsertGate, RemoveGate, InsertNet, RemoveNet, Connect, Disconnect, InsertBuffer, SetParasitics}
use Rattle.timing_defs.specs.declared.edits.Eco.{Eco}
use Rattle.timing_defs.specs.declared.faults.Fault.{Fault}
use Rattle.timing_defs.specs.Edits.{edit, edit_by, edited, edited_list, edit_faults, changed, first_fault}
use Rattle.netlist_store.specs.Linked.{IsLinked}
use Rattle.timing_defs.specs.Documents.{is_edit, is_eco}
use Rattle.netlist_store.proofs.EditLaws.{linked_repower, linked_insert_gate, linked_remove_gate, linked_insert_net, linked_remove_net, linked_disconnect, linked_parasitics}
use Rattle.netlist_store.proofs.PinLaws.{linked_connect, linked_insert_buffer}

pub linked_edit : (d : Design) (e : Edit) → IsLinked d → is_edit e ≡ true → first_fault (edit_faults d e) ≡ None → IsLinked (changed d e)
linked_edit d (Repower inst cell) linked ok none = linked_repower d linked inst cell none
linked_edit d (InsertGate inst cell) linked ok none = linked_insert_gate d linked inst cell none
linked_edit d (RemoveGate inst) linked ok none = linked_remove_gate d linked inst
linked_edit d (InsertNet net) linked ok none = linked_insert_net d linked net none
linked_edit d (RemoveNet net) linked ok none = linked_remove_net d linked net none
linked_edit d (Connect pin net) linked ok none = linked_connect d linked pin net none
linked_edit d (Disconnect pin) linked ok none = linked_disconnect d linked pin
linked_edit d (InsertBuffer net inst fresh cell sinks) linked ok none = linked_insert_buffer d linked net inst fresh cell sinks none
linked_edit d (SetParasitics net rc) linked ok none = linked_parasitics d linked net rc ok none

ok_is : {X Y : Type 0} (r : Result X Y) (x y : X) → r ≡ Ok x → r ≡ Ok y → x ≡ y
ok_is r x y e h = cc

made : (fault : Option Fault) (d d2 : Design) (e : Edit) → edit_by fault d e ≡ Ok d2 → (fault ≡ None) × (changed d e ≡ d2)
made None d d2 e h = (refl, ok_is (edit_by None d e) (changed d e) d2 refl h)
made (Some f) d d2 e h = absurd (cc)

pub linked_after : (d : Design) (e : Edit) → IsLinked d → is_edit e ≡ true → (d2 : Design) → edit d e ≡ Ok d2 → IsLinked d2
linked_after d e linked ok d2 h =
    let m = made (first_fault (edit_faults d e)) d d2 e h in subst IsLinked m.1 (linked_edit d e linked ok m.0)

linked_list : (d : Design) (es : List Edit) → IsLinked d → list_all is_edit es ≡ true → (d2 : Design) → edited_list (Ok d) es ≡ Ok d2 → IsLinked d2
linked_list d [] linked ok d2 h = subst IsLinked (ok_is (edited_list (Ok d) []) d d2 refl h) linked
linked_list d (e ∷ es) linked ok d2 h =
    let k = and_parts (is_edit e) (list_all is_edit es) ok in
    by (edit d e) refl (λ d1 f. linked_after d e linked k.0 d1 f) (λ d1 l g. linked_list d1 es l k.1 d2 g)
  where
    by : (r : Result Design Fault) → edit d e ≡ r → ((d1 : Design) → edit d e ≡ Ok d1 → IsLinked d1)
        → ((d1 : Design) → IsLinked d1 → edited_list (Ok d1) es ≡ Ok d2 → IsLinked d2) → IsLinked d2
    by (Ok d1) f one rest = rest d1 (one d1 f) (sym (ap (λ r. edited_list r es) f) ∙ h)
    by (Err fault) f one rest = let k : edited_list (Err fault) es ≡ Ok d2 = sym (ap (λ r. edited_list r es) f) ∙ h in absurd (cc)

pub linked_after_all : (d : Design) (eco : Eco) → IsLinked d → is_eco eco ≡ true → (d2 : Design) → edited d eco ≡ Ok d2 → IsLinked d2
linked_after_all d eco linked ok = linked_list d eco.edits linked (and_parts _ (list_all is_edit eco.edits) ok).1
