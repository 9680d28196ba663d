-- Edits of instances, nets and parasitics: each keeps the lists of a linked design.

use Rattle.std.proofs.Common.{◌≡◌, ℕ, Bool, true, false, List, [], ◌∷◌, ◌++◌, map, filter, Option, None, Some, refl, sym, ap, ◌∙◌, inl, inr, not}
use Rattle.std.specs.Prelude.{◌&&◌, is_none, is_some, option_and_then, if◌then◌else◌}
use Rattle.std.specs.List.{list_all, list_any}
use Rattle.std.specs.Option.{option_map_or}
use Rattle.std.specs.Str.{bytes_eq}
use Rattle.std.proofs.lemmas.Bool.{cases_Bool, false≢true, and_parts, or_parts, not-true}
use Rattle.timing_defs.specs.declared.kinds.Dir.{Dir}
use Rattle.timing_defs.specs.declared.library.Library.{Library}
use Rattle.timing_defs.specs.declared.library.Cell.{Cell}
use Rattle.timing_defs.specs.declared.netlist.Port.{Port}
use Rattle.timing_defs.specs.declared.netlist.Inst.{Inst}
use Rattle.timing_defs.specs.declared.netlist.Conn.{Conn}
use Rattle.timing_defs.specs.declared.parasitics.NetRc.{NetRc}
use Rattle.timing_defs.specs.declared.design.Design.{Design}
use Rattle.timing_defs.specs.declared.edits.Edit.TheVariants.{Repower, InsertGate, RemoveGate, InsertNet, RemoveNet, Disconnect, SetParasitics}
use Rattle.timing_defs.specs.declared.faults.Fault.TheVariants.{UnknownCell, UnknownNet, NameTaken, PinsDiffer, InUse}
use Rattle.timing_defs.specs.Netlist.{same_dir, is_listed, are_distinct, cell_named}
use Rattle.timing_defs.specs.Edits.{inst_named, has_colon, before_last, after_last, cell_for, direction_in, inst_direction, need_inst, need_net, need_cell, word_direction, free_inst, free_net, keeps_pin, fits_cell, word_net, is_conn_of, joins_net, net_in_use, edit_faults, on_inst, without_rc, with_conns, with_rc, changed, first_fault, unless}
use Rattle.netlist_store.specs.Linked.{IsLinked}
use Rattle.timing_defs.specs.Documents.{is_rc_for, is_net_rc}
use Rattle.netlist_store.proofs.ShardLaws.{same_is}
use Rattle.netlist_store.proofs.ListLaws.{apart_sym, all_push, all_kept, all_changed, all_weaker, all_both, all_changed_at, listed_push, listed_filter, distinct_push, distinct_filter, distinct_names_filter, same_names, names_push, not_found_unlisted, any_unlisted, none_passes}
use Rattle.netlist_store.proofs.LinkLaws.{no_fault, holds_unless, joins, is_linked_inst, is_linked_rc, IsKept, kept_of, linked_from}
use Rattle.netlist_store.proofs.ConnLaws.{none_is, some_of, has_pin_of, InstLinks, inst_parts, inst_from, rc_parts, rc_from}

-- a net that comes
module _ (nets after : List (List ℕ)) (wider : (q : List ℕ) → is_listed nets q ≡ true → is_listed after q ≡ true) where
  joins_wider : (o : Option (List ℕ)) → option_map_or (is_listed nets) o true ≡ true → option_map_or (is_listed after) o true ≡ true
  joins_wider None h = refl
  joins_wider (Some n) h = wider n h

  pub wider_insts : (early late : Library) (insts : List Inst) → list_all (is_linked_inst early late nets) insts ≡ true
      → list_all (is_linked_inst early late after) insts ≡ true
  wider_insts early late insts all =
      all_weaker (is_linked_inst early late after) (is_linked_inst early late nets) insts
      (λ inst h.
      let old = inst_parts early late nets inst h in
      inst_from early late after inst (record {
        distinct = old.distinct;
        joined = all_weaker (joins after) (joins nets) inst.conns (λ conn k. joins_wider conn.net k) old.joined;
        links = old.links;
      })) all

  pub wider_rcs : (rcs : List NetRc) → list_all (is_linked_rc nets) rcs ≡ true → list_all (is_linked_rc after) rcs ≡ true
  wider_rcs rcs all =
      all_weaker (is_linked_rc after) (is_linked_rc nets) rcs
      (λ rc h. let old = rc_parts nets rc h in rc_from after rc old.0 (wider rc.net old.1)) all

  pub wider_ports : (ports : List Port) → list_all (λ port. is_listed nets port.name) ports ≡ true → list_all (λ port. is_listed after port.name) ports ≡ true
  wider_ports ports all = all_weaker (λ port. is_listed after port.name) (λ port. is_listed nets port.name) ports (λ port h. wider port.name h) all

-- parasitics that go, or come
pub names_without : (net : List ℕ) (rcs : List NetRc) → are_distinct (map (λ rc. rc.net) rcs) ≡ true → are_distinct (map (λ rc. rc.net) (without_rc net rcs)) ≡ true
names_without net rcs h = distinct_filter (λ rc. rc.net) (λ rc. not (bytes_eq rc.net net)) rcs h

pub links_without : (p : NetRc → Bool) (net : List ℕ) (rcs : List NetRc) → list_all p rcs ≡ true → list_all p (without_rc net rcs) ≡ true
links_without p net rcs all = all_kept p p (λ rc. not (bytes_eq rc.net net)) rcs (λ rc h k. h) all

names_without_any : (o : Option (List ℕ)) (rcs : List NetRc) → are_distinct (map (λ rc. rc.net) rcs) ≡ true
    → are_distinct (map (λ rc. rc.net) (option_map_or (λ net. without_rc net rcs) o rcs)) ≡ true
names_without_any None rcs h = h
names_without_any (Some net) rcs h = names_without net rcs h

links_without_any : (p : NetRc → Bool) (o : Option (List ℕ)) (rcs : List NetRc) → list_all p rcs ≡ true
    → list_all p (option_map_or (λ net. without_rc net rcs) o rcs) ≡ true
links_without_any p None rcs all = all
links_without_any p (Some net) rcs all = links_without p net rcs all

module _ (rc : NetRc) (rcs : List NetRc) where
  abbrev renewed : NetRc → NetRc
  renewed old = (if bytes_eq old.net rc.net then rc else old)

  names_with : are_distinct (map (λ rc. rc.net) rcs) ≡ true → are_distinct (map (λ rc. rc.net) (with_rc rc rcs)) ≡ true
  names_with distinct = elim (cases_Bool (list_any (λ old. bytes_eq old.net rc.net) rcs)) [
    | inl h ↦ rw h (ap are_distinct (same_names (λ rc. rc.net) renewed rcs same) ∙ distinct)
    | inr h ↦
        rw h (ap are_distinct (names_push (λ rc. rc.net) rcs rc)
        ∙ distinct_push (map (λ rc. rc.net) rcs) rc.net distinct (any_unlisted (λ rc. rc.net) rcs rc.net h))
  ]
    where
      same : (old : NetRc) → (renewed old).net ≡ old.net
      same old = elim (cases_Bool (bytes_eq old.net rc.net)) [ inl e ↦ rw e (sym (same_is old.net rc.net e)) | inr e ↦ rw e refl ]

  links_with : (p : NetRc → Bool) → list_all p rcs ≡ true → p rc ≡ true → list_all p (with_rc rc rcs) ≡ true
  links_with p all new = elim (cases_Bool (list_any (λ old. bytes_eq old.net rc.net) rcs)) [
    | inl h ↦ rw h (all_changed p p renewed rcs step all)
    | inr h ↦ rw h (all_push p rcs rc all new)
  ]
    where
      step : (old : NetRc) → p old ≡ true → p (renewed old) ≡ true
      step old k = elim (cases_Bool (bytes_eq old.net rc.net)) [ inl e ↦ rw e new | inr e ↦ rw e k ]

-- an instance of its name changes
pub names_on : (name : List ℕ) (change : Inst → Inst) (insts : List Inst) → ((i : Inst) → (change i).name ≡ i.name)
    → map (λ i. i.name) (on_inst name change insts) ≡ map (λ i. i.name) insts
names_on name change insts each = same_names (λ i. i.name) (λ i. if bytes_eq i.name name then change i else i) insts same
  where
    same : (i : Inst) → (if bytes_eq i.name name then change i else i).name ≡ i.name
    same i = elim (cases_Bool (bytes_eq i.name name)) [ inl e ↦ rw e (each i) | inr e ↦ rw e refl ]

pub links_on : (early late : Library) (nets : List (List ℕ)) (name : List ℕ) (change : Inst → Inst) (insts : List Inst)
    → are_distinct (map (λ i. i.name) insts) ≡ true → list_all (is_linked_inst early late nets) insts ≡ true
    → ((i : Inst) → inst_named insts name ≡ Some i → InstLinks early late nets i → InstLinks early late nets (change i))
    → list_all (is_linked_inst early late nets) (on_inst name change insts) ≡ true
links_on early late nets name change insts distinct all step =
    all_changed_at (λ i. i.name) (is_linked_inst early late nets) name change insts distinct all
    (λ i found h. inst_from early late nets (change i) (step i found (inst_parts early late nets i h)))

keeps_has : (now o : Option Dir) → option_map_or (λ n. option_map_or (same_dir n) o false) now false ≡ true → is_some o ≡ true
keeps_has None o h = absurd (false≢true h)
keeps_has (Some n) None h = absurd (false≢true h)
keeps_has (Some n) (Some m) h = refl

word_some : (b : Bool) (o : Option Dir) → is_some (if b then o else None) ≡ true → is_some o ≡ true
word_some true o h = h
word_some false o h = absurd (false≢true h)

pub word_found : (d : Design) (word : List ℕ) → is_some (word_direction d word) ≡ true → is_some (inst_direction d (before_last word) (after_last word)) ≡ true
word_found d word h = word_some (has_colon word) (inst_direction d (before_last word) (after_last word)) h

-- a repower's check, over the instance and the new cell that are found
abbrev fits_by : Design → Option Inst → Option Cell → Bool
fits_by d inst cell = option_map_or (λ i. option_map_or (λ c. list_all (keeps_pin d i c) i.conns) cell true) inst true

abbrev not_of : List ℕ → Conn → Bool
not_of pin conn = not (is_conn_of (after_last pin) conn)

module _ (d : Design) (linked : IsLinked d) where
  kept : IsKept d
  kept = kept_of d linked

  pub free_name : (inst : List ℕ) → free_inst d inst ≡ None → is_listed (map (λ i. i.name) d.insts) inst ≡ false
  free_name inst h =
      not_found_unlisted (λ i. i.name) d.insts inst (none_is (inst_named d.insts inst) (holds_unless (is_none (inst_named d.insts inst)) (NameTaken inst) h))

  pub cell_found : (cell : List ℕ) → need_cell d cell ≡ None → (c : Cell) × (cell_for d cell ≡ Some c)
  cell_found cell h = some_of (cell_for d cell) (holds_unless (is_some (cell_for d cell)) (UnknownCell cell) h)

  -- a change of one instance, with the parasitics that stay
  one_changed : (name : List ℕ) (change : Inst → Inst) (rcs : List NetRc) → ((i : Inst) → (change i).name ≡ i.name)
      → ((i : Inst) → inst_named d.insts name ≡ Some i → InstLinks d.early d.late d.nets i → InstLinks d.early d.late d.nets (change i))
      → are_distinct (map (λ rc. rc.net) rcs) ≡ true → list_all (is_linked_rc d.nets) rcs ≡ true
      → IsLinked (record d { insts = on_inst name change d.insts; rcs = rcs })
  one_changed name change rcs same step names links =
      linked_from d d.nets (on_inst name change d.insts) rcs linked (record {
        inst_names = ap are_distinct (names_on name change d.insts same) ∙ kept.inst_names;
        net_names = kept.net_names;
        rc_names = names;
        port_nets = kept.port_nets;
        inst_links = links_on d.early d.late d.nets name change d.insts kept.inst_names kept.inst_links step;
        rc_links = links;
      })

  pub linked_repower : (inst cell : List ℕ) → first_fault (edit_faults d (Repower inst cell)) ≡ None → IsLinked (changed d (Repower inst cell))
  linked_repower inst cell none =
      let one = no_fault (need_inst d inst) (need_cell d cell ∷ unless (fits_cell d inst cell) (PinsDiffer inst) ∷ []) none in
      let two = no_fault (need_cell d cell) (unless (fits_cell d inst cell) (PinsDiffer inst) ∷ []) one.1 in
      let three = no_fault (unless (fits_cell d inst cell) (PinsDiffer inst)) [] two.1 in
      let usable = cell_found cell two.0 in
      one_changed inst (λ i. record { name = i.name; cell = cell; conns = i.conns }) d.rcs (λ i. refl)
      (λ i found old. record {
        distinct = old.distinct;
        joined = old.joined;
        links = record {
          its_cell = usable.0;
          usable = usable.1;
          its_pins = fitting i usable.0 found usable.1 (holds_unless (fits_cell d inst cell) (PinsDiffer inst) three.0);
        };
      }) kept.rc_names kept.rc_links
    where
      fitting : (i : Inst) (c : Cell) → inst_named d.insts inst ≡ Some i → cell_for d cell ≡ Some c → fits_cell d inst cell ≡ true
          → list_all (has_pin_of c) i.conns ≡ true
      fitting i c found usable all =
          let held : fits_by d (Some i) (Some c) ≡ true = sym (ap (λ o. fits_by d o (cell_for d cell)) found ∙ ap (fits_by d (Some i)) usable) ∙ all in
          all_weaker (has_pin_of c) (keeps_pin d i c) i.conns
          (λ conn h. keeps_has (option_and_then (λ old. direction_in old conn.pin) (cell_named d.late.cells i.cell)) (direction_in c conn.pin) h) held

  pub linked_insert_gate : (inst cell : List ℕ) → first_fault (edit_faults d (InsertGate inst cell)) ≡ None → IsLinked (changed d (InsertGate inst cell))
  linked_insert_gate inst cell none =
      let one = no_fault (need_cell d cell) (free_inst d inst ∷ []) none in
      let two = no_fault (free_inst d inst) [] one.1 in
      let usable = cell_found cell one.0 in
      let new : Inst = record { name = inst; cell = cell; conns = [] } in
      linked_from d d.nets (d.insts ++ new ∷ []) d.rcs linked (record {
        inst_names = ap are_distinct (names_push (λ i. i.name) d.insts new) ∙ distinct_push (map (λ i. i.name) d.insts) inst kept.inst_names (free_name inst two.0);
        net_names = kept.net_names;
        rc_names = kept.rc_names;
        port_nets = kept.port_nets;
        inst_links =
            all_push (is_linked_inst d.early d.late d.nets) d.insts new kept.inst_links
            (inst_from d.early d.late d.nets new (record {
              distinct = refl;
              joined = refl;
              links = record { its_cell = usable.0; usable = usable.1; its_pins = refl };
            }));
        rc_links = kept.rc_links;
      })

  pub linked_remove_gate : (inst : List ℕ) → IsLinked (changed d (RemoveGate inst))
  linked_remove_gate inst =
      linked_from d d.nets (filter (λ i. not (bytes_eq i.name inst)) d.insts) d.rcs linked (record {
        inst_names = distinct_filter (λ i. i.name) (λ i. not (bytes_eq i.name inst)) d.insts kept.inst_names;
        net_names = kept.net_names;
        rc_names = kept.rc_names;
        port_nets = kept.port_nets;
        inst_links =
            all_kept (is_linked_inst d.early d.late d.nets) (is_linked_inst d.early d.late d.nets) (λ i. not (bytes_eq i.name inst)) d.insts
            (λ i h k. h) kept.inst_links;
        rc_links = kept.rc_links;
      })

  pub free_is_unlisted : (net : List ℕ) → free_net d net ≡ None → is_listed d.nets net ≡ false
  free_is_unlisted net h = not-true (is_listed d.nets net) (holds_unless (not (is_listed d.nets net)) (NameTaken net) h)

  pub linked_insert_net : (net : List ℕ) → first_fault (edit_faults d (InsertNet net)) ≡ None → IsLinked (changed d (InsertNet net))
  linked_insert_net net none =
      let one = no_fault (free_net d net) [] none in
      let wider = λ (q : List ℕ) (h : is_listed d.nets q ≡ true). listed_push d.nets net q h in
      linked_from d (d.nets ++ net ∷ []) d.insts d.rcs linked (record {
        inst_names = kept.inst_names;
        net_names = distinct_push d.nets net kept.net_names (free_is_unlisted net one.0);
        rc_names = kept.rc_names;
        port_nets = wider_ports d.nets (d.nets ++ net ∷ []) wider d.ports kept.port_nets;
        inst_links = wider_insts d.nets (d.nets ++ net ∷ []) wider d.early d.late d.insts kept.inst_links;
        rc_links = wider_rcs d.nets (d.nets ++ net ∷ []) wider d.rcs kept.rc_links;
      })

  -- a net that nothing is on
  module _ (net : List ℕ) (unused : net_in_use d net ≡ false) where
    abbrev left : List (List ℕ)
    left = filter (λ n. not (bytes_eq n net)) d.nets

    joins_left : (o : Option (List ℕ)) → option_map_or (is_listed d.nets) o true ≡ true → option_map_or (bytes_eq net) o false ≡ false
        → option_map_or (is_listed left) o true ≡ true
    joins_left None h k = refl
    joins_left (Some n) h k = listed_filter d.nets net n h (apart_sym net n k)

    abbrev ports_use : Bool
    ports_use = list_any (λ port. bytes_eq port.name net) d.ports

    abbrev insts_use : Bool
    insts_use = list_any (λ inst. list_any (joins_net net) inst.conns) d.insts

    ports_left : list_all (λ port. is_listed left port.name) d.ports ≡ true
    ports_left =
        all_weaker (λ port. is_listed left port.name) (λ port. is_listed d.nets port.name && not (bytes_eq port.name net)) d.ports
        (λ port h.
        let k = and_parts (is_listed d.nets port.name) (not (bytes_eq port.name net)) h in
        listed_filter d.nets net port.name k.0 (not-true (bytes_eq port.name net) k.1))
        (all_both (λ port. is_listed d.nets port.name) (λ port. not (bytes_eq port.name net)) d.ports kept.port_nets
        (none_passes (λ port. bytes_eq port.name net) d.ports (or_parts ports_use insts_use unused).0))

    conns_left : (conns : List Conn) → list_all (joins d.nets) conns ≡ true → list_any (joins_net net) conns ≡ false → list_all (joins left) conns ≡ true
    conns_left conns all none =
        all_weaker (joins left) (λ conn. joins d.nets conn && not (joins_net net conn)) conns
        (λ conn h.
        let k = and_parts (joins d.nets conn) (not (joins_net net conn)) h in
        joins_left conn.net k.0 (not-true (joins_net net conn) k.1))
        (all_both (joins d.nets) (λ conn. not (joins_net net conn)) conns all (none_passes (joins_net net) conns none))

    insts_left : list_all (is_linked_inst d.early d.late left) d.insts ≡ true
    insts_left =
        all_weaker (is_linked_inst d.early d.late left) (λ i. is_linked_inst d.early d.late d.nets i && not (list_any (joins_net net) i.conns)) d.insts
        (λ i h.
        let k = and_parts (is_linked_inst d.early d.late d.nets i) (not (list_any (joins_net net) i.conns)) h in
        let old = inst_parts d.early d.late d.nets i k.0 in
        inst_from d.early d.late left i (record {
          distinct = old.distinct;
          joined = conns_left i.conns old.joined (not-true (list_any (joins_net net) i.conns) k.1);
          links = old.links;
        }))
        (all_both (is_linked_inst d.early d.late d.nets) (λ i. not (list_any (joins_net net) i.conns)) d.insts kept.inst_links
        (none_passes (λ i. list_any (joins_net net) i.conns) d.insts (or_parts ports_use insts_use unused).1))

    rcs_left : list_all (is_linked_rc left) (without_rc net d.rcs) ≡ true
    rcs_left =
        all_kept (is_linked_rc left) (is_linked_rc d.nets) (λ rc. not (bytes_eq rc.net net)) d.rcs
        (λ rc h k.
        let old = rc_parts d.nets rc h in
        rc_from left rc old.0 (listed_filter d.nets net rc.net old.1 (not-true (bytes_eq rc.net net) k))) kept.rc_links

    without_net : IsLinked (changed d (RemoveNet net))
    without_net =
        linked_from d left d.insts (without_rc net d.rcs) linked (record {
          inst_names = kept.inst_names;
          net_names = distinct_names_filter (λ n. not (bytes_eq n net)) d.nets kept.net_names;
          rc_names = names_without net d.rcs kept.rc_names;
          port_nets = ports_left;
          inst_links = insts_left;
          rc_links = rcs_left;
        })

  pub linked_remove_net : (net : List ℕ) → first_fault (edit_faults d (RemoveNet net)) ≡ None → IsLinked (changed d (RemoveNet net))
  linked_remove_net net none =
      let one = no_fault (need_net d net) (unless (not (net_in_use d net)) (InUse net) ∷ []) none in
      let two = no_fault (unless (not (net_in_use d net)) (InUse net)) [] one.1 in
      without_net net (not-true (net_in_use d net) (holds_unless (not (net_in_use d net)) (InUse net) two.0))

  pub linked_disconnect : (pin : List ℕ) → IsLinked (changed d (Disconnect pin))
  linked_disconnect pin =
      one_changed (before_last pin) (with_conns (filter (not_of pin))) (option_map_or (λ net. without_rc net d.rcs) (word_net d pin) d.rcs) (λ i. refl)
      (λ i found old. record {
        distinct = distinct_filter (λ conn. conn.pin) (not_of pin) i.conns old.distinct;
        joined = all_kept (joins d.nets) (joins d.nets) (not_of pin) i.conns (λ conn h k. h) old.joined;
        links = record {
          its_cell = old.links.its_cell;
          usable = old.links.usable;
          its_pins = all_kept (has_pin_of old.links.its_cell) (has_pin_of old.links.its_cell) (not_of pin) i.conns (λ conn h k. h) old.links.its_pins;
        };
      }) (names_without_any (word_net d pin) d.rcs kept.rc_names) (links_without_any (is_linked_rc d.nets) (word_net d pin) d.rcs kept.rc_links)

  pub linked_parasitics : (net : List ℕ) (rc : Option NetRc) → option_map_or (is_rc_for net) rc true ≡ true
      → first_fault (edit_faults d (SetParasitics net rc)) ≡ None → IsLinked (changed d (SetParasitics net rc))
  linked_parasitics net None ok none =
      linked_from d d.nets d.insts (without_rc net d.rcs) linked (record {
        inst_names = kept.inst_names;
        net_names = kept.net_names;
        rc_names = names_without net d.rcs kept.rc_names;
        port_nets = kept.port_nets;
        inst_links = kept.inst_links;
        rc_links = links_without (is_linked_rc d.nets) net d.rcs kept.rc_links;
      })
  linked_parasitics net (Some rc) ok none =
      let one = no_fault (need_net d net) [] none in
      let parts = and_parts (bytes_eq rc.net net) (is_net_rc rc) ok in
      let there : is_listed d.nets rc.net ≡ true = ap (is_listed d.nets) (same_is rc.net net parts.0) ∙ holds_unless (is_listed d.nets net) (UnknownNet net) one.0 in
      linked_from d d.nets d.insts (with_rc rc d.rcs) linked (record {
        inst_names = kept.inst_names;
        net_names = kept.net_names;
        rc_names = names_with rc d.rcs kept.rc_names;
        port_nets = kept.port_nets;
        inst_links = kept.inst_links;
        rc_links = links_with rc d.rcs (is_linked_rc d.nets) kept.rc_links (rc_from d.nets rc parts.1 there);
      })
