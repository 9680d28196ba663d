-- What an ECO leaves of a net that it does not touch: the pins on it as the net sees them, its parasitics, and whether it is there.

use Rattle.std.proofs.Common.{◌≡◌, ℕ, Bool, true, false, List, [], ◌∷◌, ◌++◌, map, filter, Option, None, Some, refl, sym, ap, subst, ◌∙◌, inl, inr, not}
use Rattle.std.specs.Prelude.{find, is_none, ◌||◌, ◌&&◌, if◌then◌else◌, Ok, Err}
use Rattle.std.specs.List.{list_any, list_all, flat_map, filter_map}
use Rattle.std.specs.Option.{option_map_or, option_to_list}
use Rattle.std.specs.Str.{bytes_eq}
use Rattle.std.proofs.lemmas.Bool.{cases_Bool, false≢true, true≢false, and_parts, not-true}
use Rattle.timing_defs.specs.declared.kinds.Dir.TheVariants.{Input, Output}
use Rattle.timing_defs.specs.declared.library.Cell.{Cell}
use Rattle.timing_defs.specs.declared.library.Library.{Library}
use Rattle.timing_defs.specs.declared.netlist.Inst.{Inst}
use Rattle.timing_defs.specs.declared.netlist.Conn.{Conn}
use Rattle.timing_defs.specs.declared.parasitics.NetRc.{NetRc}
use Rattle.timing_defs.specs.declared.design.Design.{Design}
use Rattle.timing_defs.specs.declared.edits.Edit.{Edit}
use Rattle.timing_defs.specs.declared.edits.Edit.TheVariants.{Repower, InsertGate, RemoveGate, InsertNet, RemoveNet, Connect, Disconnect, InsertBuffer, SetParasitics}
use Rattle.timing_defs.specs.declared.edits.Eco.{Eco}
use Rattle.timing_defs.specs.declared.faults.Fault.{Fault}
use Rattle.timing_defs.specs.declared.faults.Fault.TheVariants.{PinsDiffer, AlreadyConnected, NotConnected}
use Rattle.timing_defs.specs.Netlist.{port_pin, is_on, is_listed, are_distinct}
use Rattle.timing_defs.specs.Wires.{rc_of}
use Rattle.timing_defs.specs.Edits.{inst_named, before_last, after_last, on_inst, with_conns, connected, is_conn_of, is_open, word_net, moved_sinks, buffer_inst, first_pin, cell_for, without_rc, with_rc, changed, edit, edit_by, edited, edited_list, edit_faults, first_fault, unless, need_net, need_cell, need_pin_inst, need_pin, need_sink, free_inst, free_net, is_buffer, sink_faults}
use Rattle.timing_defs.specs.Touches.{nets_of_inst, touched_by, touched_list}
use Rattle.netlist_store.specs.Linked.{IsLinked}
use Rattle.timing_defs.specs.Documents.{is_edit, is_eco}
use Rattle.netlist_store.proofs.ShardLaws.{same_is}
use Rattle.netlist_store.proofs.ListLaws.{apart_sym}
use Rattle.netlist_store.proofs.LinkLaws.{kept_of, no_fault, no_faults, holds_unless}
use Rattle.netlist_store.proofs.EditLaws.{names_on}
use Rattle.netlist_store.proofs.EditFacts.{goes_open}
use Rattle.netlist_store.proofs.ConnNets.{connected_net, left_net}
use Rattle.netlist_store.proofs.LinkedEdits.{linked_after}
use Rattle.netlist_store.proofs.SeenPins.{seen, seen_on, seen_of, word_in, seen_by_insts, none_pushed, on_kept, left_kept, none_seen, not_named, open_off, move_kept, words_away}

-- what two designs have alike of a net
pub record IsLeft (net : List ℕ) (d d2 : Design) : Type 0 where
  pub seen : seen_on d2 net ≡ seen_on d net
  pub rc : rc_of d2 net ≡ rc_of d net
  pub listed : is_listed d2.nets net ≡ is_listed d.nets net

either_false : (a b : Bool) → (a || b) ≡ false → (a ≡ false) × (b ≡ false)
either_false false b h = (refl, h)
either_false true b h = absurd (true≢false h)

-- lists of names
unlisted_parts : (xs ys : List (List ℕ)) (name : List ℕ) → is_listed (xs ++ ys) name ≡ false → (is_listed xs name ≡ false) × (is_listed ys name ≡ false)
unlisted_parts [] ys name h = (refl, h)
unlisted_parts (x ∷ xs) ys name h =
    let k = either_false (bytes_eq name x) (is_listed (xs ++ ys) name) h in
    let r = unlisted_parts xs ys name k.1 in
    (rw k.0 r.0, r.1)

unlisted_one : (n name : List ℕ) → is_listed (n ∷ []) name ≡ false → bytes_eq name n ≡ false
unlisted_one n name h = (either_false (bytes_eq name n) false h).0

module _ (net : List ℕ) where
  seen_from : (d : Design) (nets : List (List ℕ)) (insts : List Inst) (rcs : List NetRc) → flat_map (seen_of d.late net) insts ≡ flat_map (seen_of d.late net) d.insts
      → seen_on (record d { nets = nets; insts = insts; rcs = rcs }) net ≡ seen_on d net
  seen_from d nets insts rcs e =
      seen_by_insts (record d { nets = nets; insts = insts; rcs = rcs }) net
      ∙ ap (λ xs. map seen (filter (is_on net) (map port_pin d.ports)) ++ xs) e
      ∙ sym (seen_by_insts d net)

  -- the parasitics of other nets
  rc_without : (n : List ℕ) (rcs : List NetRc) → bytes_eq net n ≡ false → find (λ rc. bytes_eq rc.net net) (without_rc n rcs) ≡ find (λ rc. bytes_eq rc.net net) rcs
  rc_without n [] off = refl
  rc_without n (r ∷ rs) off = elim (cases_Bool (bytes_eq r.net n)) [
    | inl e ↦
        let f : bytes_eq r.net net ≡ false = ap (λ z. bytes_eq z net) (same_is r.net n e) ∙ apart_sym net n off in
        rw e (rw f (rc_without n rs off))
    | inr e ↦ elim (cases_Bool (bytes_eq r.net net)) [
      | inl g ↦ rw e (rw g refl)
      | inr g ↦ rw e (rw g (rc_without n rs off))
    ]
  ]

  module _ (rc : NetRc) (off : bytes_eq net rc.net ≡ false) where
    rc_apart : bytes_eq rc.net net ≡ false
    rc_apart = apart_sym net rc.net off

    rc_replaced : (rcs : List NetRc) → find (λ r. bytes_eq r.net net) (map (λ old. if bytes_eq old.net rc.net then rc else old) rcs) ≡ find (λ r. bytes_eq r.net net) rcs
    rc_replaced [] = refl
    rc_replaced (r ∷ rs) = elim (cases_Bool (bytes_eq r.net rc.net)) [
      | inl e ↦
          let f : bytes_eq r.net net ≡ false = ap (λ z. bytes_eq z net) (same_is r.net rc.net e) ∙ rc_apart in
          rw e (rw rc_apart (rw f (rc_replaced rs)))
      | inr e ↦ elim (cases_Bool (bytes_eq r.net net)) [
        | inl g ↦ rw e (rw g refl)
        | inr g ↦ rw e (rw g (rc_replaced rs))
      ]
    ]

    rc_pushed : (rcs : List NetRc) → find (λ r. bytes_eq r.net net) (rcs ++ rc ∷ []) ≡ find (λ r. bytes_eq r.net net) rcs
    rc_pushed [] = rw rc_apart refl
    rc_pushed (r ∷ rs) = elim (cases_Bool (bytes_eq r.net net)) [
      | inl g ↦ rw g refl
      | inr g ↦ rw g (rc_pushed rs)
    ]

    rc_with : (rcs : List NetRc) → find (λ r. bytes_eq r.net net) (with_rc rc rcs) ≡ find (λ r. bytes_eq r.net net) rcs
    rc_with rcs = elim (cases_Bool (list_any (λ old. bytes_eq old.net rc.net) rcs)) [
      | inl e ↦ rw e (rc_replaced rcs)
      | inr e ↦ rw e (rc_pushed rcs)
    ]

  -- lists of nets
  net_pushed : (nets : List (List ℕ)) (n : List ℕ) → bytes_eq net n ≡ false → is_listed (nets ++ n ∷ []) net ≡ is_listed nets net
  net_pushed [] n off = rw off refl
  net_pushed (m ∷ ms) n off = ap (λ b. bytes_eq net m || b) (net_pushed ms n off)

  net_left : (nets : List (List ℕ)) (n : List ℕ) → bytes_eq net n ≡ false → is_listed (filter (λ m. not (bytes_eq m n)) nets) net ≡ is_listed nets net
  net_left [] n off = refl
  net_left (m ∷ ms) n off = elim (cases_Bool (bytes_eq m n)) [
    | inl e ↦ let f : bytes_eq net m ≡ false = ap (bytes_eq net) (same_is m n e) ∙ off in rw e (rw f (net_left ms n off))
    | inr e ↦ rw e (ap (λ b. bytes_eq net m || b) (net_left ms n off))
  ]

  -- sinks that are on a net are on no other
  sink_away : (n : List ℕ) (o : Option (List ℕ)) → bytes_eq net n ≡ false → option_map_or (bytes_eq n) o false ≡ true → option_map_or (bytes_eq net) o false ≡ false
  sink_away n None off h = refl
  sink_away n (Some m) off h = ap (bytes_eq net) (sym (same_is n m h)) ∙ off

  abbrev is_away : List Inst → List ℕ → Bool
  is_away insts w = not (option_map_or (bytes_eq net) (word_in insts w) false)

  away_of : (insts : List Inst) (w : List ℕ) → option_map_or (bytes_eq net) (word_in insts w) false ≡ false → is_away insts w ≡ true
  away_of insts w h = rw h refl

  sinks_away : (d : Design) (n : List ℕ) → bytes_eq net n ≡ false → (before sinks : List (List ℕ)) → first_fault (sink_faults d n before sinks) ≡ None
      → list_all (is_away d.insts) sinks ≡ true
  sinks_away d n off before [] h = refl
  sinks_away d n off before (s ∷ ss) h =
      let on = option_map_or (bytes_eq n) (word_net d s) false && not (is_listed before s) in
      let k = no_fault (unless on (NotConnected s)) (sink_faults d n (before ++ s ∷ []) ss) h in
      let held = and_parts (option_map_or (bytes_eq n) (word_net d s) false) (not (is_listed before s)) (holds_unless on (NotConnected s) k.0) in
      let here = away_of d.insts s (sink_away n (word_net d s) off held.0) in
      rw here (sinks_away d n off (before ++ s ∷ []) ss k.1)

  module _ (late : Library) (fresh : List ℕ) (off : bytes_eq net fresh ≡ false) where
    away_more : (w : List ℕ) (insts : List Inst) → option_map_or (bytes_eq net) (word_in insts w) false ≡ false → (ss : List (List ℕ))
        → list_all (is_away insts) ss ≡ true → list_all (is_away (on_inst (before_last w) (with_conns (connected (after_last w) fresh)) insts)) ss ≡ true
    away_more w insts here [] h = refl
    away_more w insts here (s ∷ ss) h =
        let k = and_parts (is_away insts s) (list_all (is_away insts) ss) h in
        let f =
        words_away late net w (connected (after_last w) fresh) (Some fresh) off (connected_net (after_last w) fresh) insts s
        (not-true (option_map_or (bytes_eq net) (word_in insts s) false) k.0) here in
        rw f (away_more w insts here ss k.1)

    sinks_kept : (sinks : List (List ℕ)) (insts : List Inst) → are_distinct (map (λ i. i.name) insts) ≡ true → list_all (is_away insts) sinks ≡ true
        → flat_map (seen_of late net) (moved_sinks fresh sinks insts) ≡ flat_map (seen_of late net) insts
    sinks_kept [] insts distinct h = refl
    sinks_kept (s ∷ ss) insts distinct h =
        let k = and_parts (is_away insts s) (list_all (is_away insts) ss) h in
        let here = not-true (option_map_or (bytes_eq net) (word_in insts s) false) k.0 in
        let next = on_inst (before_last s) (with_conns (connected (after_last s) fresh)) insts in
        sinks_kept ss next
        (ap are_distinct (names_on (before_last s) (with_conns (connected (after_last s) fresh)) insts (λ i. refl)) ∙ distinct)
        (away_more s insts here ss k.1)
        ∙ move_kept late net s (connected (after_last s) fresh) (Some fresh) off (connected_net (after_last s) fresh) insts distinct here

  module _ (d : Design) (linked : IsLinked d) where
    distinct_insts : are_distinct (map (λ i. i.name) d.insts) ≡ true
    distinct_insts = (kept_of d linked).inst_names

    left_repower : (inst cell : List ℕ) → is_listed (nets_of_inst d inst) net ≡ false → IsLeft net d (changed d (Repower inst cell))
    left_repower inst cell off = record {
      seen =
          seen_from d d.nets (on_inst inst (λ i. record { name = i.name; cell = cell; conns = i.conns }) d.insts) d.rcs
          (on_kept (seen_of d.late net) inst (λ i. record { name = i.name; cell = cell; conns = i.conns }) d.insts distinct_insts each);
      rc = refl;
      listed = refl;
    }
      where
        each : (i : Inst) → inst_named d.insts inst ≡ Some i
            → seen_of d.late net (record { name = i.name; cell = cell; conns = i.conns }) ≡ seen_of d.late net i
        each i e =
            let none = not_named d.late net i.conns (sym (ap (λ o. is_listed (option_map_or (λ (j : Inst). filter_map (λ conn. conn.net) j.conns) o []) net) e) ∙ off) in
            none_seen d.late net (record { name = i.name; cell = cell; conns = i.conns }) none ∙ sym (none_seen d.late net i none)

    left_insert_gate : (inst cell : List ℕ) → IsLeft net d (changed d (InsertGate inst cell))
    left_insert_gate inst cell = record {
      seen =
          seen_from d d.nets (d.insts ++ record { name = inst; cell = cell; conns = [] } ∷ []) d.rcs
          (none_pushed (seen_of d.late net) d.insts (record { name = inst; cell = cell; conns = [] })
          (none_seen d.late net (record { name = inst; cell = cell; conns = [] }) (λ own. refl)));
      rc = refl;
      listed = refl;
    }

    left_remove_gate : (inst : List ℕ) → first_fault (edit_faults d (RemoveGate inst)) ≡ None → IsLeft net d (changed d (RemoveGate inst))
    left_remove_gate inst none = record {
      seen =
          seen_from d d.nets (filter (λ i. not (bytes_eq i.name inst)) d.insts) d.rcs
          (left_kept (seen_of d.late net) inst d.insts distinct_insts each);
      rc = refl;
      listed = refl;
    }
      where
        each : (i : Inst) → inst_named d.insts inst ≡ Some i → seen_of d.late net i ≡ []
        each i e =
            none_seen d.late net i (open_off d.late net i.conns (sym (ap (λ o. option_map_or is_open o true) e) ∙ goes_open d inst none))

    left_insert_net : (n : List ℕ) → bytes_eq net n ≡ false → IsLeft net d (changed d (InsertNet n))
    left_insert_net n off = record { seen = seen_from d (d.nets ++ n ∷ []) d.insts d.rcs refl; rc = refl; listed = net_pushed d.nets n off }

    left_remove_net : (n : List ℕ) → bytes_eq net n ≡ false → IsLeft net d (changed d (RemoveNet n))
    left_remove_net n off = record {
      seen = seen_from d (filter (λ m. not (bytes_eq m n)) d.nets) d.insts (without_rc n d.rcs) refl;
      rc = rc_without n d.rcs off;
      listed = net_left d.nets n off;
    }

    left_parasitics : (n : List ℕ) (rc : Option NetRc) → is_edit (SetParasitics n rc) ≡ true → bytes_eq net n ≡ false → IsLeft net d (changed d (SetParasitics n rc))
    left_parasitics n None ok off = record { seen = seen_from d d.nets d.insts (without_rc n d.rcs) refl; rc = rc_without n d.rcs off; listed = refl }
    left_parasitics n (Some rc) ok off =
        let same = same_is rc.net n (and_parts (bytes_eq rc.net n) _ ok).0 in
        record {
          seen = seen_from d d.nets d.insts (with_rc rc d.rcs) refl;
          rc = rc_with rc (ap (bytes_eq net) same ∙ off) d.rcs;
          listed = refl;
        }

    left_connect : (w n : List ℕ) → first_fault (edit_faults d (Connect w n)) ≡ None → bytes_eq net n ≡ false → IsLeft net d (changed d (Connect w n))
    left_connect w n none off = record {
      seen =
          seen_from d d.nets (on_inst (before_last w) (with_conns (connected (after_last w) n)) d.insts) (without_rc n d.rcs)
          (move_kept d.late net w (connected (after_last w) n) (Some n) off (connected_net (after_last w) n) d.insts distinct_insts free);
      rc = rc_without n d.rcs off;
      listed = refl;
    }
      where
        was_none : is_none (word_net d w) ≡ true
        was_none =
            let free = unless (is_none (word_net d w)) (AlreadyConnected w) in
            let one = no_fault (need_pin_inst d w) (need_net d n ∷ need_pin d w ∷ free ∷ []) none in
            let two = no_fault (need_net d n) (need_pin d w ∷ free ∷ []) one.1 in
            let three = no_fault (need_pin d w) (free ∷ []) two.1 in
            holds_unless (is_none (word_net d w)) (AlreadyConnected w) (no_fault free [] three.1).0

        by : (o : Option (List ℕ)) → is_none o ≡ true → option_map_or (bytes_eq net) o false ≡ false
        by None h = refl
        by (Some m) h = absurd (false≢true h)

        free : option_map_or (bytes_eq net) (word_in d.insts w) false ≡ false
        free = by (word_net d w) was_none

    left_disconnect : (w : List ℕ) → is_listed (option_to_list (word_net d w)) net ≡ false → IsLeft net d (changed d (Disconnect w))
    left_disconnect w off = by (word_net d w) refl off
      where
        seen_left : option_map_or (bytes_eq net) (word_in d.insts w) false ≡ false → (rcs : List NetRc)
            → seen_on (record d { insts = on_inst (before_last w) (with_conns (filter (λ conn. not (is_conn_of (after_last w) conn)))) d.insts; rcs = rcs }) net ≡ seen_on d net
        seen_left away rcs =
            seen_from d d.nets (on_inst (before_last w) (with_conns (filter (λ conn. not (is_conn_of (after_last w) conn)))) d.insts) rcs
            (move_kept d.late net w (filter (λ conn. not (is_conn_of (after_last w) conn))) None refl (left_net (after_last w)) d.insts distinct_insts away)

        by : (o : Option (List ℕ)) → word_net d w ≡ o → is_listed (option_to_list o) net ≡ false → IsLeft net d (changed d (Disconnect w))
        by None e h = record {
          seen = seen_left (ap (λ o. option_map_or (bytes_eq net) o false) e) (option_map_or (λ n. without_rc n d.rcs) (word_net d w) d.rcs);
          rc = ap (λ o. find (λ rc. bytes_eq rc.net net) (option_map_or (λ n. without_rc n d.rcs) o d.rcs)) e;
          listed = refl;
        }
        by (Some n) e h = record {
          seen = seen_left (ap (λ o. option_map_or (bytes_eq net) o false) e ∙ unlisted_one n net h) (option_map_or (λ n. without_rc n d.rcs) (word_net d w) d.rcs);
          rc = ap (λ o. find (λ rc. bytes_eq rc.net net) (option_map_or (λ n. without_rc n d.rcs) o d.rcs)) e ∙ rc_without n d.rcs (unlisted_one n net h);
          listed = refl;
        }

    buffer_off : (n inst fresh cell : List ℕ) → bytes_eq net n ≡ false → bytes_eq net fresh ≡ false → seen_of d.late net (buffer_inst d n inst fresh cell) ≡ []
    buffer_off n inst fresh cell off new = none_seen d.late net (buffer_inst d n inst fresh cell) (not_named d.late net (buffer_inst d n inst fresh cell).conns (by (cell_for d cell)))
      where
        by : (o : Option Cell) → is_listed (filter_map (λ (c : Conn). c.net) (option_map_or
            (λ c. record { pin = first_pin Input c; net = Some n } ∷ record { pin = first_pin Output c; net = Some fresh } ∷ []) o [])) net ≡ false
        by None = refl
        by (Some c) = rw off (rw new refl)

    left_buffer : (n inst fresh cell : List ℕ) (sinks : List (List ℕ)) → first_fault (edit_faults d (InsertBuffer n inst fresh cell sinks)) ≡ None
        → bytes_eq net n ≡ false → bytes_eq net fresh ≡ false → IsLeft net d (changed d (InsertBuffer n inst fresh cell sinks))
    left_buffer n inst fresh cell sinks none off new = record {
      seen =
          seen_from d (d.nets ++ fresh ∷ []) (moved_sinks fresh sinks d.insts ++ buffer_inst d n inst fresh cell ∷ []) (without_rc n d.rcs)
          (none_pushed (seen_of d.late net) (moved_sinks fresh sinks d.insts) (buffer_inst d n inst fresh cell) (buffer_off n inst fresh cell off new)
          ∙ sinks_kept d.late fresh new sinks d.insts distinct_insts (sinks_away d n off [] sinks on));
      rc = rc_without n d.rcs off;
      listed = net_pushed d.nets fresh new;
    }
      where
        on : first_fault (sink_faults d n [] sinks) ≡ None
        on =
            let fits = unless (option_map_or is_buffer (cell_for d cell) true) (PinsDiffer inst) in
            let ends = free_inst d inst ∷ free_net d fresh ∷ fits ∷ sink_faults d n [] sinks in
            let parts = no_faults (map (need_pin_inst d) sinks ++ need_net d n ∷ need_cell d cell ∷ map (need_sink d) sinks) ends none in
            let three = no_fault (free_inst d inst) (free_net d fresh ∷ fits ∷ sink_faults d n [] sinks) parts.1 in
            let four = no_fault (free_net d fresh) (fits ∷ sink_faults d n [] sinks) three.1 in
            (no_fault fits (sink_faults d n [] sinks) four.1).1

    -- an edit leaves the nets that it does not touch
    pub left_by_edit : (e : Edit) → is_edit e ≡ true → first_fault (edit_faults d e) ≡ None → is_listed (touched_by d e).nets net ≡ false → IsLeft net d (changed d e)
    left_by_edit (Repower inst cell) ok none off = left_repower inst cell off
    left_by_edit (InsertGate inst cell) ok none off = left_insert_gate inst cell
    left_by_edit (RemoveGate inst) ok none off = left_remove_gate inst none
    left_by_edit (InsertNet n) ok none off = left_insert_net n (unlisted_one n net off)
    left_by_edit (RemoveNet n) ok none off = left_remove_net n (unlisted_one n net off)
    left_by_edit (Connect w n) ok none off = left_connect w n none (unlisted_one n net off)
    left_by_edit (Disconnect w) ok none off = left_disconnect w off
    left_by_edit (InsertBuffer n inst fresh cell sinks) ok none off =
        let k = either_false (bytes_eq net n) (bytes_eq net fresh || false) off in left_buffer n inst fresh cell sinks none k.0 (unlisted_one fresh net k.1)
    left_by_edit (SetParasitics n rc) ok none off = left_parasitics n rc ok (unlisted_one n net off)

  left_twice : (d d1 d2 : Design) → IsLeft net d d1 → IsLeft net d1 d2 → IsLeft net d d2
  left_twice d d1 d2 a b = record { seen = b.seen ∙ a.seen; rc = b.rc ∙ a.rc; listed = b.listed ∙ a.listed }

  left_list : (d : Design) (es : List Edit) → IsLinked d → list_all is_edit es ≡ true → (d2 : Design) → edited_list (Ok d) es ≡ Ok d2
      → is_listed (touched_list d es).nets net ≡ false → IsLeft net d d2
  left_list d [] linked ok d2 h off = let same : d ≡ d2 = cc in subst (IsLeft net d) same (record { seen = refl; rc = refl; listed = refl })
  left_list d (e ∷ es) linked ok d2 h off = by (first_fault (edit_faults d e)) refl (λ l k. left_list (changed d e) es l parts.1 d2 k apart.1)
    where
      parts : (is_edit e ≡ true) × (list_all is_edit es ≡ true)
      parts = and_parts (is_edit e) (list_all is_edit es) ok

      apart : (is_listed (touched_by d e).nets net ≡ false) × (is_listed (touched_list (changed d e) es).nets net ≡ false)
      apart = unlisted_parts (touched_by d e).nets (touched_list (changed d e) es).nets net off

      by : (fault : Option Fault) → first_fault (edit_faults d e) ≡ fault
          → (IsLinked (changed d e) → edited_list (Ok (changed d e)) es ≡ Ok d2 → IsLeft net (changed d e) d2) → IsLeft net d d2
      by None f later =
          let one : edit d e ≡ Ok (changed d e) = ap (λ o. edit_by o d e) f in
          left_twice d (changed d e) d2 (left_by_edit d linked e parts.0 f apart.0)
          (later (linked_after d e linked parts.0 (changed d e) one) (sym (ap (λ r. edited_list r es) one) ∙ h))
      by (Some x) f later =
          let one : edit d e ≡ Err x = ap (λ o. edit_by o d e) f in
          let k : edited_list (Err x) es ≡ Ok d2 = sym (ap (λ r. edited_list r es) one) ∙ h in
          absurd (cc)

  -- an ECO leaves the nets that it does not touch
  pub left_by_eco : (d : Design) (eco : Eco) → IsLinked d → is_eco eco ≡ true → (d2 : Design) → edited d eco ≡ Ok d2
      → is_listed (touched_list d eco.edits).nets net ≡ false → IsLeft net d d2
  left_by_eco d eco linked ok d2 = left_list d eco.edits linked (and_parts _ (list_all is_edit eco.edits) ok).1 d2

-- no edit changes ports, constraints or libraries
pub record IsFramed (d d2 : Design) : Type 0 where
  pub early : d2.early ≡ d.early
  pub late : d2.late ≡ d.late
  pub ports : d2.ports ≡ d.ports
  pub constraints : d2.constraints ≡ d.constraints

framed_edit : (d : Design) (e : Edit) → IsFramed d (changed d e)
framed_edit d (Repower inst cell) = record { early = refl; late = refl; ports = refl; constraints = refl }
framed_edit d (InsertGate inst cell) = record { early = refl; late = refl; ports = refl; constraints = refl }
framed_edit d (RemoveGate inst) = record { early = refl; late = refl; ports = refl; constraints = refl }
framed_edit d (InsertNet net) = record { early = refl; late = refl; ports = refl; constraints = refl }
framed_edit d (RemoveNet net) = record { early = refl; late = refl; ports = refl; constraints = refl }
framed_edit d (Connect pin net) = record { early = refl; late = refl; ports = refl; constraints = refl }
framed_edit d (Disconnect pin) = record { early = refl; late = refl; ports = refl; constraints = refl }
framed_edit d (InsertBuffer net inst fresh cell sinks) = record { early = refl; late = refl; ports = refl; constraints = refl }
framed_edit d (SetParasitics net rc) = record { early = refl; late = refl; ports = refl; constraints = refl }

framed_list : (d : Design) (es : List Edit) (d2 : Design) → edited_list (Ok d) es ≡ Ok d2 → IsFramed d d2
framed_list d [] d2 h = let same : d ≡ d2 = cc in subst (IsFramed d) same (record { early = refl; late = refl; ports = refl; constraints = refl })
framed_list d (e ∷ es) d2 h = by (first_fault (edit_faults d e)) refl (λ k. framed_list (changed d e) es d2 k)
  where
    by : (fault : Option Fault) → first_fault (edit_faults d e) ≡ fault → (edited_list (Ok (changed d e)) es ≡ Ok d2 → IsFramed (changed d e) d2) → IsFramed d d2
    by None f later =
        let a = framed_edit d e in
        let b = later (sym (ap (λ o. edited_list (edit_by o d e) es) f) ∙ h) in
        record { early = b.early ∙ a.early; late = b.late ∙ a.late; ports = b.ports ∙ a.ports; constraints = b.constraints ∙ a.constraints }
    by (Some x) f later = let k : edited_list (Err x) es ≡ Ok d2 = sym (ap (λ o. edited_list (edit_by o d e) es) f) ∙ h in absurd (cc)

pub framed_by_eco : (d : Design) (eco : Eco) (d2 : Design) → edited d eco ≡ Ok d2 → IsFramed d d2
framed_by_eco d eco = framed_list d eco.edits
