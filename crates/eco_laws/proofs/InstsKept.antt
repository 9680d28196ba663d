-- What an ECO leaves of an instance that it does not touch: its name, its cell, and the nets of its pins but for touched ones.

use Rattle.std.proofs.Common.{◌≡◌, ℕ, Bool, true, false, List, [], ◌∷◌, ◌++◌, map, ◌⊎◌, Option, None, Some, refl, sym, ap, subst, ◌∙◌, inl, inr, not}
use Rattle.std.specs.Prelude.{◌&&◌, option_map, option_and_then, if◌then◌else◌, Ok, Err}
use Rattle.std.specs.List.{list_all}
use Rattle.std.specs.Option.{option_map_or}
use Rattle.std.specs.Str.{bytes_eq}
use Rattle.std.proofs.lemmas.Bool.{cases_Bool, false≢true, and_parts}
use Rattle.timing_defs.specs.declared.netlist.Inst.{Inst}
use Rattle.timing_defs.specs.declared.design.Design.{Design}
use Rattle.timing_defs.specs.declared.edits.Edit.{Edit}
use Rattle.timing_defs.specs.declared.edits.Edit.TheVariants.{Repower, InsertGate, RemoveGate, InsertNet, RemoveNet, Connect, Disconnect, InsertBuffer, SetParasitics}
use Rattle.timing_defs.specs.declared.edits.Eco.{Eco}
use Rattle.timing_defs.specs.declared.faults.Fault.{Fault}
use Rattle.timing_defs.specs.declared.faults.Fault.TheVariants.{PinsDiffer, NotConnected}
use Rattle.timing_defs.specs.Netlist.{conn_net, is_listed}
use Rattle.timing_defs.specs.Edits.{inst_named, before_last, after_last, on_inst, with_conns, connected, word_net, moved_sinks, buffer_inst, cell_for, changed, edit_by, edited, edited_list, edit_faults, first_fault, unless, need_net, need_cell, need_pin_inst, need_sink, free_inst, free_net, is_buffer, sink_faults}
use Rattle.timing_defs.specs.Touches.{touched_by, touched_list}
use Rattle.timing_defs.proofs.SameNames.{same_is, same_self}
use Rattle.timing_defs.proofs.Members.{found_passes}
use Rattle.netlist_store.proofs.SeenPins.{word_in}
use Rattle.eco_laws.specs.Kept.{is_on_any, IsSameNet, IsSameInst, IsInstKept}
use Rattle.eco_laws.proofs.Lists.{apart_sym, find_mapped, find_filtered, find_pushed, unlisted_parts, unlisted_one, listed_left, listed_right}
use Rattle.eco_laws.proofs.ConnNets.{connected_net}

-- steps one after the other, and more nets
same_nets : (nets : List (List ℕ)) (a b c : Option (List ℕ)) → IsSameNet nets a b → IsSameNet nets b c → IsSameNet nets a c
same_nets nets a b c (inl e) (inl f) = inl (e ∙ f)
same_nets nets a b c (inl e) (inr f) = inr (ap (is_on_any nets) e ∙ f.0, f.1)
same_nets nets a b c (inr e) (inl f) = inr (e.0, sym (ap (is_on_any nets) f) ∙ e.1)
same_nets nets a b c (inr e) (inr f) = inr (e.0, f.1)

kept_again : (nets : List (List ℕ)) (a b c : Option Inst) → IsInstKept nets a b → IsInstKept nets b c → IsInstKept nets a c
kept_again nets None None c h k = k
kept_again nets None (Some b) c h k = absurd (cc)
kept_again nets (Some a) None c h k = absurd h
kept_again nets (Some a) (Some b) None h k = k
kept_again nets (Some a) (Some b) (Some c) h k = record {
  name = k.name ∙ h.name;
  cell = k.cell ∙ h.cell;
  conns = λ own. same_nets nets (conn_net a.conns own) (conn_net b.conns own) (conn_net c.conns own) (h.conns own) (k.conns own);
}

module _ (nets more : List (List ℕ)) (wider : (o : Option (List ℕ)) → is_on_any nets o ≡ true → is_on_any more o ≡ true) where
  more_nets : (a b : Option (List ℕ)) → IsSameNet nets a b → IsSameNet more a b
  more_nets a b (inl e) = inl e
  more_nets a b (inr e) = inr (wider a e.0, wider b e.1)

  kept_wider : (a b : Option Inst) → IsInstKept nets a b → IsInstKept more a b
  kept_wider None b h = h
  kept_wider (Some a) None h = h
  kept_wider (Some a) (Some b) h = record {
    name = h.name;
    cell = h.cell;
    conns = λ own. more_nets (conn_net a.conns own) (conn_net b.conns own) (h.conns own);
  }

on_left : (xs ys : List (List ℕ)) (o : Option (List ℕ)) → is_on_any xs o ≡ true → is_on_any (xs ++ ys) o ≡ true
on_left xs ys None h = h
on_left xs ys (Some n) h = listed_left xs ys n h

on_right : (xs ys : List (List ℕ)) (o : Option (List ℕ)) → is_on_any ys o ≡ true → is_on_any (xs ++ ys) o ≡ true
on_right xs ys None h = h
on_right xs ys (Some n) h = listed_right xs ys n h

kept_twice : (one two : List (List ℕ)) (a b c : Option Inst) → IsInstKept one a b → IsInstKept two b c → IsInstKept (one ++ two) a c
kept_twice one two a b c h k =
    kept_again (one ++ two) a b c (kept_wider one (one ++ two) (on_left one two) a b h) (kept_wider two (one ++ two) (on_right one two) b c k)

kept_self : (nets : List (List ℕ)) (o : Option Inst) → IsInstKept nets o o
kept_self nets None = refl
kept_self nets (Some i) = record { name = refl; cell = refl; conns = λ own. inl refl }

kept_equal : (nets : List (List ℕ)) (a b : Option Inst) → b ≡ a → IsInstKept nets a b
kept_equal nets a b e = subst (IsInstKept nets a) (sym e) (kept_self nets a)

-- one instance changes, and keeps its name
module _ (name : List ℕ) (change : Inst → Inst) (keeps : (i : Inst) → (change i).name ≡ i.name) where
  abbrev change_at : Inst → Inst
  change_at i = (if bytes_eq i.name name then change i else i)

  stays_named : (x : List ℕ) (i : Inst) → bytes_eq (change_at i).name x ≡ bytes_eq i.name x
  stays_named x i = ap (λ n. bytes_eq n x) (by (bytes_eq i.name name))
    where
      by : (b : Bool) → (if b then change i else i).name ≡ i.name
      by true = keeps i
      by false = refl

  named_changed : (x : List ℕ) (insts : List Inst) → inst_named (on_inst name change insts) x ≡ option_map change_at (inst_named insts x)
  named_changed x insts = find_mapped (λ i. bytes_eq i.name x) change_at (stays_named x) insts

  named_other : (x : List ℕ) → bytes_eq x name ≡ false → (insts : List Inst) → inst_named (on_inst name change insts) x ≡ inst_named insts x
  named_other x other insts = named_changed x insts ∙ by (inst_named insts x) refl
    where
      by : (o : Option Inst) → inst_named insts x ≡ o → option_map change_at o ≡ o
      by None e = refl
      by (Some i) e =
          let f : bytes_eq i.name name ≡ false =
          ap (λ n. bytes_eq n name) (same_is i.name x (found_passes (λ (j : Inst). bytes_eq j.name x) insts i e)) ∙ other in
          rw f refl

-- sinks that go over to another net
module _ (net fresh : List ℕ) where
  abbrev both : List (List ℕ)
  both = net ∷ fresh ∷ []

  fresh_on : is_on_any both (Some fresh) ≡ true
  fresh_on = elim (cases_Bool (bytes_eq fresh net)) [
    | inl e ↦ rw e refl
    | inr e ↦ let f = same_self fresh in rw e (rw f refl)
  ]

  sink_on : (o : Option (List ℕ)) → option_map_or (bytes_eq net) o false ≡ true → is_on_any both o ≡ true
  sink_on None h = absurd (false≢true h)
  sink_on (Some m) h =
      let f : bytes_eq m net ≡ true = ap (bytes_eq m) (same_is net m h) ∙ same_self m in
      rw f refl

  sinks_on : (d : Design) (before sinks : List (List ℕ)) → first_fault (sink_faults d net before sinks) ≡ None
      → list_all (λ s. is_on_any both (word_in d.insts s)) sinks ≡ true
  sinks_on d before [] h = refl
  sinks_on d before (s ∷ ss) h =
      let on = option_map_or (bytes_eq net) (word_net d s) false && not (is_listed before s) in
      let k = no_fault (unless on (NotConnected s)) (sink_faults d net (before ++ s ∷ []) ss) h in
      let held = and_parts (option_map_or (bytes_eq net) (word_net d s) false) (not (is_listed before s)) (holds_unless on (NotConnected s) k.0) in
      let here = sink_on (word_net d s) held.0 in
      rw here (sinks_on d (before ++ s ∷ []) ss k.1)
    where
      no_fault : (fault : Option Fault) (faults : List (Option Fault)) → first_fault (fault ∷ faults) ≡ None → (fault ≡ None) × (first_fault faults ≡ None)
      no_fault None faults e = (refl, e)
      no_fault (Some f) faults e = absurd (cc)

      holds_unless : (holds : Bool) (fault : Fault) → unless holds fault ≡ None → holds ≡ true
      holds_unless true fault e = refl
      holds_unless false fault e = absurd (cc)

  module _ (w : List ℕ) where
    abbrev joined : Inst → Inst
    joined = with_conns (connected (after_last w) fresh)

    abbrev moved : List Inst → List Inst
    moved insts = on_inst (before_last w) joined insts

    named_moved : (x : List ℕ) (insts : List Inst) → inst_named (moved insts) x ≡ option_map (change_at (before_last w) joined (λ i. refl)) (inst_named insts x)
    named_moved x insts = named_changed (before_last w) joined (λ i. refl) x insts

    -- other sinks stay on these nets
    joined_on : (i : Inst) (own : List ℕ) → is_on_any both (conn_net i.conns own) ≡ true → is_on_any both (conn_net (joined i).conns own) ≡ true
    joined_on i own on = ap (is_on_any both) (connected_net (after_last w) fresh i.conns own) ∙ by (bytes_eq own (after_last w))
      where
        by : (b : Bool) → is_on_any both (if b then Some fresh else conn_net i.conns own) ≡ true
        by true = fresh_on
        by false = on

    still_on : (insts : List Inst) (s : List ℕ) → is_on_any both (word_in insts s) ≡ true → is_on_any both (word_in (moved insts) s) ≡ true
    still_on insts s on =
        ap (λ o. is_on_any both (option_and_then (λ i. conn_net i.conns (after_last s)) o)) (named_moved (before_last s) insts)
        ∙ by (inst_named insts (before_last s)) on
      where
        one : (i : Inst) (b : Bool) → is_on_any both (conn_net i.conns (after_last s)) ≡ true
            → is_on_any both (conn_net (if b then joined i else i).conns (after_last s)) ≡ true
        one i true h = joined_on i (after_last s) h
        one i false h = h

        by : (o : Option Inst) → is_on_any both (option_and_then (λ i. conn_net i.conns (after_last s)) o) ≡ true
            → is_on_any both (option_and_then (λ i. conn_net i.conns (after_last s)) (option_map (change_at (before_last w) joined (λ i. refl)) o)) ≡ true
        by None h = h
        by (Some i) h = one i (bytes_eq i.name (before_last w)) h

    all_still_on : (insts : List Inst) (ss : List (List ℕ)) → list_all (λ s. is_on_any both (word_in insts s)) ss ≡ true
        → list_all (λ s. is_on_any both (word_in (moved insts) s)) ss ≡ true
    all_still_on insts [] h = refl
    all_still_on insts (s ∷ ss) h =
        let k = and_parts (is_on_any both (word_in insts s)) (list_all (λ s. is_on_any both (word_in insts s)) ss) h in
        let f = still_on insts s k.0 in
        rw f (all_still_on insts ss k.1)

    joined_kept : (i : Inst) (b : Bool) → (b ≡ true → is_on_any both (conn_net i.conns (after_last w)) ≡ true) → IsSameInst both i (if b then joined i else i)
    joined_kept i false here = record { name = refl; cell = refl; conns = λ own. inl refl }
    joined_kept i true here = record { name = refl; cell = refl; conns = λ own. by own (cases_Bool (bytes_eq own (after_last w))) }
      where
        by : (own : List ℕ) → (bytes_eq own (after_last w) ≡ true) ⊎ (bytes_eq own (after_last w) ≡ false)
            → IsSameNet both (conn_net i.conns own) (conn_net (joined i).conns own)
        by own (inl e) =
            let on : is_on_any both (conn_net i.conns own) ≡ true = ap (λ z. is_on_any both (conn_net i.conns z)) (same_is own (after_last w) e) ∙ here refl in
            inr (on, joined_on i own on)
        by own (inr e) = inl (sym (connected_net (after_last w) fresh i.conns own ∙ rw e refl))

    move_kept : (x : List ℕ) (insts : List Inst) → is_on_any both (word_in insts w) ≡ true → IsInstKept both (inst_named insts x) (inst_named (moved insts) x)
    move_kept x insts on = subst (IsInstKept both (inst_named insts x)) (sym (named_moved x insts)) (by (inst_named insts x) refl)
      where
        by : (o : Option Inst) → inst_named insts x ≡ o → IsInstKept both o (option_map (change_at (before_last w) joined (λ i. refl)) o)
        by None e = refl
        by (Some i) e = joined_kept i (bytes_eq i.name (before_last w)) here
          where
            here : bytes_eq i.name (before_last w) ≡ true → is_on_any both (conn_net i.conns (after_last w)) ≡ true
            here f =
                let same : before_last w ≡ x =
                sym (same_is i.name (before_last w) f) ∙ same_is i.name x (found_passes (λ (j : Inst). bytes_eq j.name x) insts i e) in
                sym (ap (λ o. is_on_any both (option_and_then (λ j. conn_net j.conns (after_last w)) o)) (ap (inst_named insts) same ∙ e)) ∙ on

  sinks_kept : (x : List ℕ) (sinks : List (List ℕ)) (insts : List Inst) → list_all (λ s. is_on_any both (word_in insts s)) sinks ≡ true
      → IsInstKept both (inst_named insts x) (inst_named (moved_sinks fresh sinks insts) x)
  sinks_kept x [] insts h = kept_self both (inst_named insts x)
  sinks_kept x (s ∷ ss) insts h =
      let k = and_parts (is_on_any both (word_in insts s)) (list_all (λ s. is_on_any both (word_in insts s)) ss) h in
      kept_again both (inst_named insts x) (inst_named (moved s insts) x) (inst_named (moved_sinks fresh ss (moved s insts)) x)
      (move_kept s x insts k.0) (sinks_kept x ss (moved s insts) (all_still_on s insts ss k.1))

no_fault : (fault : Option Fault) (faults : List (Option Fault)) → first_fault (fault ∷ faults) ≡ None → first_fault faults ≡ None
no_fault None faults e = e
no_fault (Some f) faults e = absurd (cc)

no_faults : (one two : List (Option Fault)) → first_fault (one ++ two) ≡ None → first_fault two ≡ None
no_faults [] two e = e
no_faults (None ∷ rest) two e = no_faults rest two e
no_faults (Some f ∷ rest) two e = absurd (cc)

module _ (x : List ℕ) where
  module _ (d : Design) where
    kept_buffer : (n inst fresh cell : List ℕ) (sinks : List (List ℕ)) → first_fault (edit_faults d (InsertBuffer n inst fresh cell sinks)) ≡ None
        → bytes_eq x inst ≡ false → IsInstKept (n ∷ fresh ∷ []) (inst_named d.insts x) (inst_named (changed d (InsertBuffer n inst fresh cell sinks)).insts x)
    kept_buffer n inst fresh cell sinks none other =
        subst (IsInstKept (n ∷ fresh ∷ []) (inst_named d.insts x))
        (sym (find_pushed (λ i. bytes_eq i.name x) (moved_sinks fresh sinks d.insts) (buffer_inst d n inst fresh cell) (apart_sym x inst other)))
        (sinks_kept n fresh x sinks d.insts (sinks_on n fresh d [] sinks on))
      where
        on : first_fault (sink_faults d n [] sinks) ≡ None
        on =
            let fits = unless (option_map_or is_buffer (cell_for d cell) true) (PinsDiffer inst) in
            let ends = free_inst d inst ∷ free_net d fresh ∷ fits ∷ sink_faults d n [] sinks in
            let parts = no_faults (map (need_pin_inst d) sinks ++ need_net d n ∷ need_cell d cell ∷ map (need_sink d) sinks) ends none in
            let three = no_fault (free_inst d inst) (free_net d fresh ∷ fits ∷ sink_faults d n [] sinks) parts in
            let four = no_fault (free_net d fresh) (fits ∷ sink_faults d n [] sinks) three in
            no_fault fits (sink_faults d n [] sinks) four

    removed_kept : (inst : List ℕ) → bytes_eq x inst ≡ false → inst_named (changed d (RemoveGate inst)).insts x ≡ inst_named d.insts x
    removed_kept inst other =
        find_filtered (λ i. bytes_eq i.name x) (λ i. not (bytes_eq i.name inst))
        (λ i e. ap (λ n. not (bytes_eq n inst)) (same_is i.name x e) ∙ ap not other) d.insts

    -- an edit leaves the instances that it does not touch
    pub kept_by_edit : (e : Edit) → first_fault (edit_faults d e) ≡ None → is_listed (touched_by d e).insts x ≡ false
        → IsInstKept (touched_by d e).nets (inst_named d.insts x) (inst_named (changed d e).insts x)
    kept_by_edit (Repower inst cell) none off =
        kept_equal (touched_by d (Repower inst cell)).nets (inst_named d.insts x) (inst_named (changed d (Repower inst cell)).insts x)
        (named_other inst (λ i. record { name = i.name; cell = cell; conns = i.conns }) (λ i. refl) x (unlisted_one inst x off) d.insts)
    kept_by_edit (InsertGate inst cell) none off =
        kept_equal [] (inst_named d.insts x) (inst_named (changed d (InsertGate inst cell)).insts x)
        (find_pushed (λ i. bytes_eq i.name x) d.insts (record { name = inst; cell = cell; conns = [] }) (apart_sym x inst (unlisted_one inst x off)))
    kept_by_edit (RemoveGate inst) none off =
        kept_equal [] (inst_named d.insts x) (inst_named (changed d (RemoveGate inst)).insts x) (removed_kept inst (unlisted_one inst x off))
    kept_by_edit (InsertNet n) none off = kept_self (n ∷ []) (inst_named d.insts x)
    kept_by_edit (RemoveNet n) none off = kept_self (n ∷ []) (inst_named d.insts x)
    kept_by_edit (Connect w n) none off =
        kept_equal (n ∷ []) (inst_named d.insts x) (inst_named (changed d (Connect w n)).insts x)
        (named_other (before_last w) (with_conns (connected (after_last w) n)) (λ i. refl) x (unlisted_one (before_last w) x off) d.insts)
    kept_by_edit (Disconnect w) none off =
        kept_equal (touched_by d (Disconnect w)).nets (inst_named d.insts x) (inst_named (changed d (Disconnect w)).insts x)
        (named_other (before_last w) _ (λ i. refl) x (unlisted_one (before_last w) x off) d.insts)
    kept_by_edit (InsertBuffer n inst fresh cell sinks) none off = kept_buffer n inst fresh cell sinks none (unlisted_one inst x off)
    kept_by_edit (SetParasitics n rc) none off = kept_self (n ∷ []) (inst_named d.insts x)

  kept_list : (d : Design) (es : List Edit) (d2 : Design) → edited_list (Ok d) es ≡ Ok d2 → is_listed (touched_list d es).insts x ≡ false
      → IsInstKept (touched_list d es).nets (inst_named d.insts x) (inst_named d2.insts x)
  kept_list d [] d2 h off =
      let same : d ≡ d2 = cc in
      subst (λ (e : Design). IsInstKept [] (inst_named d.insts x) (inst_named e.insts x)) same (kept_self [] (inst_named d.insts x))
  kept_list d (e ∷ es) d2 h off = by (first_fault (edit_faults d e)) refl (λ k. kept_list (changed d e) es d2 k apart.1)
    where
      apart : (is_listed (touched_by d e).insts x ≡ false) × (is_listed (touched_list (changed d e) es).insts x ≡ false)
      apart = unlisted_parts (touched_by d e).insts (touched_list (changed d e) es).insts x off

      by : (fault : Option Fault) → first_fault (edit_faults d e) ≡ fault
          → (edited_list (Ok (changed d e)) es ≡ Ok d2
          → IsInstKept (touched_list (changed d e) es).nets (inst_named (changed d e).insts x) (inst_named d2.insts x))
          → IsInstKept ((touched_by d e).nets ++ (touched_list (changed d e) es).nets) (inst_named d.insts x) (inst_named d2.insts x)
      by None f later =
          kept_twice (touched_by d e).nets (touched_list (changed d e) es).nets
          (inst_named d.insts x) (inst_named (changed d e).insts x) (inst_named d2.insts x)
          (kept_by_edit d e f apart.0) (later (sym (ap (λ o. edited_list (edit_by o d e) es) f) ∙ h))
      by (Some fault) f later = let k : edited_list (Err fault) es ≡ Ok d2 = sym (ap (λ o. edited_list (edit_by o d e) es) f) ∙ h in absurd (cc)

  -- an ECO leaves the instances that it does not touch
  pub kept_by_eco : (d : Design) (eco : Eco) (d2 : Design) → edited d eco ≡ Ok d2 → is_listed (touched_list d eco.edits).insts x ≡ false
      → IsInstKept (touched_list d eco.edits).nets (inst_named d.insts x) (inst_named d2.insts x)
  kept_by_eco d eco = kept_list d eco.edits
