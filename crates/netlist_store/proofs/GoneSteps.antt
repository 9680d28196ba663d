-- Stores in which a gate goes, as the code has their tables.

use Rattle.std.proofs.Common.{◌≡◌, ℕ, ◌<◌, true, List, [], length, set, filter, Option, None, Some, sym, ap, subst, ◌∙◌, not}
use Rattle.std.specs.Prelude.{nat_eq, option_and_then, is_some, slice_get, if◌then◌else◌}
use Rattle.std.specs.List.{filter_map, list_any, list_all}
use Rattle.std.specs.Option.{option_map_or}
use Rattle.std.specs.Str.{bytes_eq}
use Rattle.std.proofs.lemmas.Option.{slice_get_within}
use Rattle.timing_defs.specs.declared.kinds.Split.TheVariants.{Late}
use Rattle.timing_defs.specs.declared.library.CellPin.{CellPin}
use Rattle.timing_defs.specs.declared.netlist.Inst.{Inst}
use Rattle.timing_defs.specs.Netlist.{cell_of, cell_pins, cell_named}
use Rattle.timing_defs.specs.Edits.{inst_named, is_open}
use Rattle.netlist_store.specs.declared.tables.Frame.{Frame}
use Rattle.netlist_store.specs.declared.tables.Names.{Names}
use Rattle.netlist_store.specs.declared.tables.Orders.{Orders}
use Rattle.netlist_store.specs.declared.tables.Rows.{Rows}
use Rattle.netlist_store.specs.Numbering.{Stored, name_at, number_of, inst_numbered, AreNumbers}
use Rattle.netlist_store.specs.Linked.{IsLinked}
use Rattle.netlist_store.specs.Drafts.{IsPart, is_lost}
use Rattle.netlist_store.specs.Stores.{at, design_in, stored_in, AreTables}
use Rattle.netlist_store.proofs.NumberLaws.{number_at}
use Rattle.netlist_store.proofs.NumberEdits.{at_gone}
use Rattle.netlist_store.proofs.ConnLaws.{some_of}
use Rattle.netlist_store.proofs.InUse.{then_some}
use Rattle.netlist_store.proofs.EditLaws.{linked_remove_gate}
use Rattle.netlist_store.proofs.PinsByWord.{plain_pins, is_plain}
use Rattle.netlist_store.proofs.PinsOfInst.{part_from, sub_from, name_gone, name_longer}
use Rattle.netlist_store.proofs.GateGone.{insts_left, gate_gone}
use Rattle.netlist_store.proofs.Sound.{tables_sound, sound_tables, inst_is}

module _ (frame : Frame) (names : Names) (rows : Rows) (orders : Orders) (t : AreTables (stored_in frame names rows orders) rows orders)
    (s : Stored) (view : stored_in frame names rows orders ≡ s) (x : List ℕ) (n : ℕ) (here : number_of s.insts x ≡ Some n) where
  here_in : number_of names.insts x ≡ Some n
  here_in = ap (λ (s : Stored). number_of s.insts x) view ∙ here

  stands : name_at names.insts n ≡ Some x
  stands = number_at names.insts x n here_in

  its : (i : Inst) × (at rows.insts n ≡ Some i)
  its = some_of (at rows.insts n) (sym ((tables_sound frame names rows orders t).inst_numbers n) ∙ ap is_some stands)

  found : inst_named (design_in frame names rows orders).insts x ≡ Some (its).0
  found = inst_is frame names rows orders (tables_sound frame names rows orders t) x ∙ ap (option_and_then (at rows.insts)) here_in ∙ (its).1

  numbered : inst_numbered (stored_in frame names rows orders) n ≡ Some (its).0
  numbered = ap (option_and_then (inst_named (design_in frame names rows orders).insts)) stands ∙ found

  module _ (opened : option_map_or is_open (inst_named s.design.insts x) true ≡ true)
      (ps : List CellPin) (pins_are : ps ≡ cell_pins (option_and_then (cell_of s.design Late) (inst_numbered s n)))
      (after : Names) (insts_are : after.insts ≡ set names.insts n None) (nets_same : after.nets ≡ names.nets)
      (lost : (q : List ℕ) → number_of after.pins q ≡ (if list_any (is_lost x [] q) ps then None else number_of names.pins q)) (part : IsPart after.pins names.pins)
      (still : AreNumbers after.insts) (are : AreNumbers after.pins)
      (table : List (Option Inst)) (put : (k : ℕ) → at table k ≡ (if nat_eq n k then None else at rows.insts k))
      (orders' : Orders) (e : orders' ≡ record orders { insts = filter (λ k. not (nat_eq n k)) orders.insts }) where
    its_open : is_open (its).0 ≡ true
    its_open =
        sym (ap (λ o. option_map_or is_open o true) found) ∙ ap (λ (s : Stored). option_map_or is_open (inst_named s.design.insts x) true) view ∙ opened

    its_pins : ps ≡ cell_pins (cell_named frame.late.cells (its).0.cell)
    its_pins =
        pins_are ∙ sym (ap (λ (s : Stored). cell_pins (option_and_then (cell_of s.design Late) (inst_numbered s n))) view)
        ∙ ap (λ o. cell_pins (option_and_then (cell_of (design_in frame names rows orders) Late) o)) numbered

    plain : list_all is_plain ps ≡ true
    plain = ap (list_all is_plain) its_pins ∙ plain_pins (design_in frame names rows orders) t.linked (its).0

    within : n < length names.insts
    within = let q = then_some (λ name. name) (slice_get names.insts n) x stands in slice_get_within names.insts n q.0 q.1

    gone_at : (k : ℕ) → name_at after.insts k ≡ (if nat_eq n k then None else name_at names.insts k)
    gone_at k = ap (λ ns. name_at ns k) insts_are ∙ at_gone names.insts n within k

    after_is : after ≡ record names { insts = after.insts; pins = after.pins }
    after_is = ap (λ ns. record after { nets = ns }) nets_same

    list_now : filter_map (at table) (filter (λ k. not (nat_eq n k)) orders.insts) ≡ filter (λ j. not (bytes_eq j.name x)) (design_in frame names rows orders).insts
    list_now = insts_left frame names rows orders (tables_sound frame names rows orders t) x n here_in (its).0 (its).1 its_open after.insts still gone_at table put

    pub gone_design : design_in frame after (record rows { insts = table }) orders' ≡ record s.design { insts = filter (λ j. not (bytes_eq j.name x)) s.design.insts }
    gone_design =
        ap (λ ns. design_in frame ns (record rows { insts = table }) orders') after_is
        ∙ ap (λ o. design_in frame (record names { insts = after.insts; pins = after.pins }) (record rows { insts = table }) o) e
        ∙ ap (λ xs. record (design_in frame names rows orders) { insts = xs }) list_now
        ∙ ap (λ (s : Stored). record s.design { insts = filter (λ (j : Inst). not (bytes_eq j.name x)) s.design.insts }) view

    pub gone_tables : AreTables (stored_in frame after (record rows { insts = table }) orders') (record rows { insts = table }) orders'
    gone_tables =
        let d = design_in frame names rows orders in
        let linked : IsLinked (record d { insts = filter_map (at table) (filter (λ k. not (nat_eq n k)) orders.insts) }) =
        subst (λ xs. IsLinked (record d { insts = xs })) (sym list_now) (linked_remove_gate d t.linked x) in
        subst (λ ns. AreTables (stored_in frame ns (record rows { insts = table }) orders') (record rows { insts = table }) orders') (sym after_is)
        (subst (λ o. AreTables (stored_in frame (record names { insts = after.insts; pins = after.pins }) (record rows { insts = table }) o) (record rows { insts = table }) o) (sym e)
        (sound_tables frame (record names { insts = after.insts; pins = after.pins }) (record rows { insts = table }) (record orders { insts = filter (λ k. not (nat_eq n k)) orders.insts })
        (gate_gone frame names rows orders (tables_sound frame names rows orders t) x n here_in (its).0 (its).1 its_open after.insts still gone_at table put
        ps its_pins plain after.pins are part lost linked)))

-- the names of instances that are left
pub gone_insts : (names after : List (Option (List ℕ))) (x : List ℕ) (n : ℕ) → number_of names x ≡ Some n → after ≡ set names n None → AreNumbers after → AreNumbers names
    → IsPart after names
gone_insts names after x n here gone still are =
    part_from names after still (sub_from names after (λ q. bytes_eq q x) (name_gone names after are still x n here gone)) (name_longer names after are still x n here gone)
