-- The tables of parasitics, as those of a net go, come or change.

use Rattle.std.proofs.Common.{◌≡◌, ℕ, Bool, true, false, List, [], ◌∷◌, ◌++◌, map, filter, Option, None, Some, refl, sym, ap, subst, ◌∙◌, inl, inr, not, Bor}
use Rattle.std.specs.Prelude.{nat_eq, ◌||◌, find, option_and_then, option_map, is_some, if◌then◌else◌}
use Rattle.std.specs.List.{list_any, filter_map}
use Rattle.std.specs.Option.{option_copied}
use Rattle.std.specs.Str.{bytes_eq}
use Rattle.std.proofs.lemmas.Bool.{cases_Bool, false≢true, true≢false, or_right, and_from, eqb-true, eq-eqb}
use Rattle.std.proofs.lemmas.Bool.Decides.{eqb_tells}
use Rattle.timing_defs.specs.declared.parasitics.NetRc.{NetRc}
use Rattle.timing_defs.specs.Netlist.{is_listed}
use Rattle.timing_defs.specs.Wires.{rc_of}
use Rattle.timing_defs.specs.Edits.{without_rc, with_rc, need_net, first_fault}
use Rattle.netlist_store.specs.declared.tables.Frame.{Frame}
use Rattle.netlist_store.specs.declared.tables.Names.{Names}
use Rattle.netlist_store.specs.declared.tables.Orders.{Orders}
use Rattle.netlist_store.specs.declared.tables.Rows.{Rows}
use Rattle.netlist_store.specs.Numbering.{name_at, number_of, AreNumbers}
use Rattle.netlist_store.specs.Linked.{IsLinked}
use Rattle.timing_defs.specs.Documents.{is_net_rc}
use Rattle.netlist_store.specs.Drafts.{with_rcs}
use Rattle.netlist_store.specs.Stores.{at, design_in, stored_in, AreTables}
use Rattle.netlist_store.proofs.ShardLaws.{same_is, same_self}
use Rattle.netlist_store.proofs.NumberLaws.{number_at, some_is}
use Rattle.netlist_store.proofs.InOrder.{same_rows, changed_rows, removed_row}
use Rattle.netlist_store.proofs.NamedLaws.{none_is}
use Rattle.netlist_store.proofs.EditLaws.{linked_parasitics}
use Rattle.netlist_store.proofs.Sound.{AreSound, sound_tables, tables_sound}

-- a name is that of a number exactly where the number is its own
pub same_number : (names : List (Option (List ℕ))) → AreNumbers names → (q : List ℕ) (m : ℕ) → number_of names q ≡ Some m
    → (k : ℕ) (x : List ℕ) → name_at names k ≡ Some x → bytes_eq x q ≡ nat_eq m k
same_number names are q m here k x e = elim (eqb_tells m k) [
  | inl h ↦
      let same : x ≡ q = some_is (sym e ∙ ap (name_at names) (sym h.1) ∙ number_at names q m here) in
      ap (λ z. bytes_eq z q) same ∙ same_self q ∙ sym h.0
  | inr h ↦ elim (cases_Bool (bytes_eq x q)) [
    | inl g ↦ absurd (h.1 (some_is (sym here ∙ ap (number_of names) (sym (same_is x q g)) ∙ are.distinct k x e)))
    | inr g ↦ g ∙ sym h.0
  ]
]

-- none goes where none is there
pub none_without : (net : List ℕ) (rcs : List NetRc) → find (λ rc. bytes_eq rc.net net) rcs ≡ None → without_rc net rcs ≡ rcs
none_without net [] e = refl
none_without net (rc ∷ rcs) e = elim (cases_Bool (bytes_eq rc.net net)) [
  | inl h ↦ let f = rw h at e in absurd (cc)
  | inr h ↦ rw h (ap (λ xs. rc ∷ xs) (none_without net rcs (rw h at e)))
]

pub in_filter : (m n : ℕ) (order : List ℕ) → list_any (nat_eq n) (filter (λ k. not (nat_eq m k)) order) ≡ true → nat_eq m n ≡ false
in_filter m n [] h = absurd (false≢true h)
in_filter m n (k ∷ ks) h = elim (cases_Bool (nat_eq m k)) [
  | inl e ↦ in_filter m n ks (rw e at h)
  | inr e ↦ elim (eqb_tells n k) [
    | inl g ↦ ap (nat_eq m) g.1 ∙ e
    | inr g ↦ let f : (nat_eq n k || list_any (nat_eq n) (filter (λ j. not (nat_eq m j)) ks)) ≡ true = rw e at h in in_filter m n ks (rw g.0 at f)
  ]
]

pub any_filter : (m n : ℕ) (order : List ℕ) → list_any (nat_eq n) (filter (λ k. not (nat_eq m k)) order) ≡ (if nat_eq m n then false else list_any (nat_eq n) order)
any_filter m n [] = elim (cases_Bool (nat_eq m n)) [ inl e ↦ rw e refl | inr e ↦ rw e refl ]
any_filter m n (k ∷ ks) = elim (eqb_tells m k) [
  | inl e ↦ elim (cases_Bool (nat_eq m n)) [
    | inl g ↦ let rest = any_filter m n ks in rw e.0 (rest ∙ rw g refl)
    | inr g ↦
        let rest = any_filter m n ks in
        let other : nat_eq n k ≡ false = elim (eqb_tells n k) [ inl h ↦ absurd (true≢false (sym (eq-eqb m n (e.1 ∙ sym h.1)) ∙ g)) | inr h ↦ h.0 ] in
        rw e.0 (rest ∙ rw (g, other) refl)
  ]
  | inr e ↦ elim (cases_Bool (nat_eq m n)) [
    | inl g ↦
        let rest = any_filter m n ks in
        let other : nat_eq n k ≡ false = elim (eqb_tells n k) [ inl h ↦ absurd (e.1 (eqb-true m n g ∙ h.1)) | inr h ↦ h.0 ] in
        rw e.0 (rw (other, g) (rest ∙ rw g refl))
    | inr g ↦ let rest : list_any (nat_eq n) (filter (λ j. not (nat_eq m j)) ks) ≡ list_any (nat_eq n) ks = any_filter m n ks ∙ rw g refl in
        rw e.0 (rw g (ap (λ b. nat_eq n k || b) rest))
  ]
]

pub any_push : (m n : ℕ) (order : List ℕ) → list_any (nat_eq n) (order ++ m ∷ []) ≡ (if nat_eq m n then true else list_any (nat_eq n) order)
any_push m n [] = elim (eqb_tells n m) [
  | inl e ↦ rw (e.0, eq-eqb m n (sym e.1)) refl
  | inr e ↦ elim (cases_Bool (nat_eq m n)) [ inl g ↦ absurd (e.1 (sym (eqb-true m n g))) | inr g ↦ rw (e.0, g) refl ]
]
any_push m n (k ∷ ks) = elim (cases_Bool (nat_eq m n)) [
  | inl g ↦
      let rest : list_any (nat_eq n) (ks ++ m ∷ []) ≡ true = any_push m n ks ∙ rw g refl in
      rw g (rw rest (elim (cases_Bool (nat_eq n k)) [ inl h ↦ rw h refl | inr h ↦ rw h refl ]))
  | inr g ↦
      let rest : list_any (nat_eq n) (ks ++ m ∷ []) ≡ list_any (nat_eq n) ks = any_push m n ks ∙ rw g refl in
      rw g (ap (λ b. nat_eq n k || b) rest)
]

pub map_push : {X : Type 0} (look : ℕ → Option X) (order : List ℕ) (m : ℕ) (x : X) → look m ≡ Some x
    → filter_map look (order ++ m ∷ []) ≡ filter_map look order ++ x ∷ []
map_push look [] m x e = rw e refl
map_push {X} look (k ∷ ks) m x e = by (look k) refl (map_push look ks m x e)
  where
    by : (o : Option X) → look k ≡ o → filter_map look (ks ++ m ∷ []) ≡ filter_map look ks ++ x ∷ []
        → filter_map look (k ∷ (ks ++ m ∷ [])) ≡ filter_map look (k ∷ ks) ++ x ∷ []
    by None f rest = rw f rest
    by (Some y) f rest = rw f (ap (λ zs. y ∷ zs) rest)

module _ (frame : Frame) (names : Names) (rows : Rows) (orders : Orders) (s : AreSound frame names rows orders)
    (net : List ℕ) (m : ℕ) (here : number_of names.nets net ≡ Some m) where
  named_rc : (k : ℕ) (rc : NetRc) → at rows.rcs k ≡ Some rc → bytes_eq rc.net net ≡ nat_eq m k
  named_rc k rc e = same_number names.nets s.nets net m here k rc.net (s.rc_names k rc e)

  -- the parasitics of the net go
  module _ (rcs : List (Option NetRc)) (gone : (k : ℕ) → at rcs k ≡ (if nat_eq m k then None else at rows.rcs k)) where
    pub rcs_gone : filter_map (at rcs) (filter (λ k. not (nat_eq m k)) orders.rcs) ≡ without_rc net (filter_map (at rows.rcs) orders.rcs)
    rcs_gone =
        same_rows (at rows.rcs) (at rcs) (filter (λ k. not (nat_eq m k)) orders.rcs)
        (λ n h. gone n ∙ ap (λ b. if b then None else at rows.rcs n) (in_filter m n orders.rcs h))
        ∙ removed_row (at rows.rcs) (λ rc. not (bytes_eq rc.net net)) m orders.rcs (λ k rc e. ap not (named_rc k rc e))

    pub gone_sound : IsLinked (design_in frame names (record rows { rcs = rcs }) (record orders { rcs = filter (λ k. not (nat_eq m k)) orders.rcs }))
        → AreSound frame names (record rows { rcs = rcs }) (record orders { rcs = filter (λ k. not (nat_eq m k)) orders.rcs })
    gone_sound linked = record {
      inst_names = s.inst_names;
      inst_numbers = s.inst_numbers;
      rc_names = λ n rc e. elim (cases_Bool (nat_eq m n)) [
        | inl h ↦ let f : None ≡ Some rc = ap (λ b. if b then None else at rows.rcs n) (sym h) ∙ sym (gone n) ∙ e in absurd (cc)
        | inr h ↦ s.rc_names n rc (ap (λ b. if b then None else at rows.rcs n) (sym h) ∙ sym (gone n) ∙ e)
      ];
      insts_ordered = s.insts_ordered;
      nets_ordered = s.nets_ordered;
      rcs_ordered = λ n.
          any_filter m n orders.rcs ∙ ap (λ b. if nat_eq m n then false else b) (s.rcs_ordered n)
          ∙ push_is (nat_eq m n) (at rows.rcs n) ∙ ap is_some (sym (gone n));
      insts = s.insts;
      nets = s.nets;
      pins = s.pins;
      pin_rows = s.pin_rows;
      filled = s.filled;
      net_rows = s.net_rows;
      linked = linked;
    }
      where
        push_is : (b : Bool) (o : Option NetRc) → (if b then false else is_some o) ≡ is_some (if b then None else o)
        push_is true o = refl
        push_is false o = refl

  -- parasitics come, or take the place of others
  module _ (rc : NetRc) (its : rc.net ≡ net) (rcs : List (Option NetRc)) (put : (k : ℕ) → at rcs k ≡ (if nat_eq m k then Some rc else at rows.rcs k)) where
    its_number : (k : ℕ) (old : NetRc) → at rows.rcs k ≡ Some old → bytes_eq old.net rc.net ≡ nat_eq m k
    its_number k old e = ap (bytes_eq old.net) its ∙ named_rc k old e

    here_now : at rcs m ≡ Some rc
    here_now = put m ∙ ap (λ b. if b then Some rc else at rows.rcs m) (eq-eqb m m refl)

    put_names : (n : ℕ) (r : NetRc) → at rcs n ≡ Some r → name_at names.nets n ≡ Some r.net
    put_names n r e = elim (eqb_tells m n) [
      | inl h ↦
          let f : rc ≡ r = some_is (ap (λ b. if b then Some rc else at rows.rcs n) (sym h.0) ∙ sym (put n) ∙ e) in
          ap (name_at names.nets) (sym h.1) ∙ number_at names.nets net m here ∙ ap Some (sym its ∙ ap (λ (x : NetRc). x.net) f)
      | inr h ↦ s.rc_names n r (ap (λ b. if b then Some rc else at rows.rcs n) (sym h.0) ∙ sym (put n) ∙ e)
    ]

    pick_some : (b : Bool) (o : Option NetRc) → (if b then true else is_some o) ≡ is_some (if b then Some rc else o)
    pick_some true o = refl
    pick_some false o = refl

    still_some : (b : Bool) (o : Option NetRc) → (b ≡ true → is_some o ≡ true) → is_some o ≡ is_some (if b then Some rc else o)
    still_some true o h = h refl
    still_some false o h = refl

    -- where some are there
    pub rcs_changed : is_some (at rows.rcs m) ≡ true → filter_map (at rcs) orders.rcs ≡ with_rc rc (filter_map (at rows.rcs) orders.rcs)
    rcs_changed there =
        changed_rows (at rows.rcs) (at rcs) (λ old. if bytes_eq old.net rc.net then rc else old) orders.rcs (λ n. by n (at rows.rcs n) refl)
        ∙ sym (ap (λ b. if b then map (λ old. if bytes_eq old.net rc.net then rc else old) (filter_map (at rows.rcs) orders.rcs) else filter_map (at rows.rcs) orders.rcs ++ rc ∷ [])
        (any_here (at rows.rcs m) refl there))
      where
        pick : (b : Bool) (old : NetRc) → (if b then Some rc else Some old) ≡ Some (if b then rc else old)
        pick true old = refl
        pick false old = refl

        by : (n : ℕ) (o : Option NetRc) → at rows.rcs n ≡ o → at rcs n ≡ option_map (λ old. if bytes_eq old.net rc.net then rc else old) (at rows.rcs n)
        by n None e = elim (eqb_tells m n) [
          | inl h ↦ absurd (false≢true (sym (ap is_some (ap (at rows.rcs) h.1 ∙ e)) ∙ there))
          | inr h ↦ put n ∙ ap (λ b. if b then Some rc else at rows.rcs n) h.0 ∙ e ∙ sym (ap (option_map (λ old. if bytes_eq old.net rc.net then rc else old)) e)
        ]
        by n (Some old) e =
            put n ∙ ap (λ o. if nat_eq m n then Some rc else o) e ∙ pick (nat_eq m n) old
            ∙ ap (λ b. Some (if b then rc else old)) (sym (its_number n old e))
            ∙ sym (ap (option_map (λ old. if bytes_eq old.net rc.net then rc else old)) e)

        any_here : (o : Option NetRc) → at rows.rcs m ≡ o → is_some o ≡ true
            → list_any (λ old. bytes_eq old.net rc.net) (filter_map (at rows.rcs) orders.rcs) ≡ true
        any_here None e h = absurd (false≢true h)
        any_here (Some old) e h = any_row old e (its_number m old e ∙ eq-eqb m m refl) orders.rcs (s.rcs_ordered m ∙ ap is_some e)
          where
            any_row : (old : NetRc) → at rows.rcs m ≡ Some old → bytes_eq old.net rc.net ≡ true → (order : List ℕ) → list_any (nat_eq m) order ≡ true
                → list_any (λ old. bytes_eq old.net rc.net) (filter_map (at rows.rcs) order) ≡ true
            any_row old e same [] h = absurd (false≢true h)
            any_row old e same (k ∷ ks) h = elim (eqb_tells m k) [
              | inl g ↦ let f : at rows.rcs k ≡ Some old = ap (at rows.rcs) (sym g.1) ∙ e in rw f (rw same refl)
              | inr g ↦
                  let rest = any_row old e same ks (ap (λ b. b || list_any (nat_eq m) ks) (sym g.0) ∙ h) in
                  later (at rows.rcs k) refl rest
            ]
              where
                later : (o : Option NetRc) → at rows.rcs k ≡ o → list_any (λ old. bytes_eq old.net rc.net) (filter_map (at rows.rcs) ks) ≡ true
                    → list_any (λ old. bytes_eq old.net rc.net) (filter_map (at rows.rcs) (k ∷ ks)) ≡ true
                later None f rest = rw f rest
                later (Some r) f rest = rw f (or_right (bytes_eq r.net rc.net) (list_any (λ old. bytes_eq old.net rc.net) (filter_map (at rows.rcs) ks)) rest)

    pub changed_sound : is_some (at rows.rcs m) ≡ true → IsLinked (design_in frame names (record rows { rcs = rcs }) orders)
        → AreSound frame names (record rows { rcs = rcs }) orders
    changed_sound there linked = record {
      inst_names = s.inst_names;
      inst_numbers = s.inst_numbers;
      rc_names = put_names;
      insts_ordered = s.insts_ordered;
      nets_ordered = s.nets_ordered;
      rcs_ordered = λ n.
          s.rcs_ordered n
          ∙ still_some (nat_eq m n) (at rows.rcs n) (λ h. ap (λ k. is_some (at rows.rcs k)) (sym (eqb-true m n h)) ∙ there)
          ∙ ap is_some (sym (put n));
      insts = s.insts;
      nets = s.nets;
      pins = s.pins;
      pin_rows = s.pin_rows;
      filled = s.filled;
      net_rows = s.net_rows;
      linked = linked;
    }

    -- where none are there
    none_of_it : (rcs0 : List NetRc) → find (λ old. bytes_eq old.net net) rcs0 ≡ None → list_any (λ old. bytes_eq old.net rc.net) rcs0 ≡ false
    none_of_it [] e = refl
    none_of_it (r ∷ rs) e = elim (cases_Bool (bytes_eq r.net net)) [
      | inl h ↦ let f = rw h at e in absurd (cc)
      | inr h ↦ let g : bytes_eq r.net rc.net ≡ false = ap (bytes_eq r.net) its ∙ h in rw g (none_of_it rs (rw h at e))
    ]

    pub rcs_pushed : is_some (at rows.rcs m) ≡ false → find (λ old. bytes_eq old.net net) (filter_map (at rows.rcs) orders.rcs) ≡ None
        → filter_map (at rcs) (orders.rcs ++ m ∷ []) ≡ with_rc rc (filter_map (at rows.rcs) orders.rcs)
    rcs_pushed absent none =
        map_push (at rcs) orders.rcs m rc here_now
        ∙ ap (λ xs. xs ++ rc ∷ []) (same_rows (at rows.rcs) (at rcs) orders.rcs (λ n h. put n ∙ ap (λ b. if b then Some rc else at rows.rcs n) (other n h)))
        ∙ sym (ap (λ b. if b then map (λ old. if bytes_eq old.net rc.net then rc else old) (filter_map (at rows.rcs) orders.rcs) else filter_map (at rows.rcs) orders.rcs ++ rc ∷ [])
        (none_of_it (filter_map (at rows.rcs) orders.rcs) none))
      where
        other : (n : ℕ) → list_any (nat_eq n) orders.rcs ≡ true → nat_eq m n ≡ false
        other n h = elim (eqb_tells m n) [
          | inl g ↦ absurd (false≢true (sym absent ∙ ap (λ k. is_some (at rows.rcs k)) g.1 ∙ sym (s.rcs_ordered n) ∙ h))
          | inr g ↦ g.0
        ]

    pub pushed_sound : IsLinked (design_in frame names (record rows { rcs = rcs }) (record orders { rcs = orders.rcs ++ m ∷ [] }))
        → AreSound frame names (record rows { rcs = rcs }) (record orders { rcs = orders.rcs ++ m ∷ [] })
    pushed_sound linked = record {
      inst_names = s.inst_names;
      inst_numbers = s.inst_numbers;
      rc_names = put_names;
      insts_ordered = s.insts_ordered;
      nets_ordered = s.nets_ordered;
      rcs_ordered = λ n.
          any_push m n orders.rcs ∙ ap (λ b. if nat_eq m n then true else b) (s.rcs_ordered n)
          ∙ pick_some (nat_eq m n) (at rows.rcs n) ∙ ap is_some (sym (put n));
      insts = s.insts;
      nets = s.nets;
      pins = s.pins;
      pin_rows = s.pin_rows;
      filled = s.filled;
      net_rows = s.net_rows;
      linked = linked;
    }

-- as the code has them
module _ (frame : Frame) (names : Names) (rows : Rows) (orders : Orders) (t : AreTables (stored_in frame names rows orders) rows orders)
    (net : List ℕ) (m : ℕ) (here : number_of names.nets net ≡ Some m) where
  rc_there : rc_of (design_in frame names rows orders) net ≡ at rows.rcs m
  rc_there = sym (ap (option_and_then (rc_of (design_in frame names rows orders))) (number_at names.nets net m here)) ∙ t.rc_rows m

  known_net : first_fault (need_net (design_in frame names rows orders) net ∷ []) ≡ None
  known_net =
      let listed : is_listed (design_in frame names rows orders).nets net ≡ true = sym (t.numbered.net_names net) ∙ ap is_some here in
      rw listed refl

  pub rc_absent : at rows.rcs m ≡ None → stored_in frame names rows orders ≡ with_rcs (stored_in frame names rows orders) (without_rc net (design_in frame names rows orders).rcs)
  rc_absent none =
      ap (with_rcs (stored_in frame names rows orders)) (sym (none_without net (design_in frame names rows orders).rcs (rc_there ∙ none)))

  pub rc_gone_design : (rcs : List (Option NetRc)) → ((k : ℕ) → at rcs k ≡ (if nat_eq m k then None else at rows.rcs k)) → (orders' : Orders)
      → orders' ≡ record orders { rcs = filter (λ k. not (nat_eq m k)) orders.rcs }
      → stored_in frame names (record rows { rcs = rcs }) orders' ≡ with_rcs (stored_in frame names rows orders) (without_rc net (design_in frame names rows orders).rcs)
  rc_gone_design rcs gone orders' e =
      ap (λ o. stored_in frame names (record rows { rcs = rcs }) o) e
      ∙ ap (with_rcs (stored_in frame names rows orders)) (rcs_gone frame names rows orders (tables_sound frame names rows orders t) net m here rcs gone)

  pub rc_gone_tables : (rcs : List (Option NetRc)) → ((k : ℕ) → at rcs k ≡ (if nat_eq m k then None else at rows.rcs k)) → (orders' : Orders)
      → orders' ≡ record orders { rcs = filter (λ k. not (nat_eq m k)) orders.rcs }
      → AreTables (stored_in frame names (record rows { rcs = rcs }) orders') (record rows { rcs = rcs }) orders'
  rc_gone_tables rcs gone orders' e =
      let s = tables_sound frame names rows orders t in
      let d = design_in frame names rows orders in
      let linked : IsLinked (record d { rcs = filter_map (at rcs) (filter (λ k. not (nat_eq m k)) orders.rcs) }) =
      subst (λ xs. IsLinked (record d { rcs = xs })) (sym (rcs_gone frame names rows orders s net m here rcs gone))
      (linked_parasitics d t.linked net None refl known_net) in
      subst (λ o. AreTables (stored_in frame names (record rows { rcs = rcs }) o) (record rows { rcs = rcs }) o) (sym e)
      (sound_tables frame names (record rows { rcs = rcs }) (record orders { rcs = filter (λ k. not (nat_eq m k)) orders.rcs })
      (gone_sound frame names rows orders s net m here rcs gone linked))

  -- parasitics come
  module _ (rc : NetRc) (its : rc.net ≡ net) (amounts : is_net_rc rc ≡ true) (rcs : List (Option NetRc))
      (put : (k : ℕ) → at rcs k ≡ (if nat_eq m k then Some rc else at rows.rcs k)) (known : Bool) (there : known ≡ is_some (at rows.rcs m))
      (orders' : Orders) (e : orders' ≡ record orders { rcs = (if known then orders.rcs else orders.rcs ++ m ∷ []) }) where
    list_now : filter_map (at rcs) orders'.rcs ≡ with_rc rc (design_in frame names rows orders).rcs
    list_now = ap (λ (o : Orders). filter_map (at rcs) o.rcs) e ∙ by known refl
      where
        by : (b : Bool) → known ≡ b → filter_map (at rcs) (if known then orders.rcs else orders.rcs ++ m ∷ []) ≡ with_rc rc (design_in frame names rows orders).rcs
        by true f =
            ap (λ b. filter_map (at rcs) (if b then orders.rcs else orders.rcs ++ m ∷ [])) f
            ∙ rcs_changed frame names rows orders (tables_sound frame names rows orders t) net m here rc its rcs put (sym there ∙ f)
        by false f =
            ap (λ b. filter_map (at rcs) (if b then orders.rcs else orders.rcs ++ m ∷ [])) f
            ∙ rcs_pushed frame names rows orders (tables_sound frame names rows orders t) net m here rc its rcs put (sym there ∙ f)
            (rc_there ∙ none_is (at rows.rcs m) (sym there ∙ f))

    pub rc_put_design : stored_in frame names (record rows { rcs = rcs }) orders' ≡ with_rcs (stored_in frame names rows orders) (with_rc rc (design_in frame names rows orders).rcs)
    rc_put_design =
        ap (λ (o : Orders). stored_in frame names (record rows { rcs = rcs }) (record o { rcs = orders'.rcs })) e
        ∙ ap (with_rcs (stored_in frame names rows orders)) list_now

    pub rc_put_tables : AreTables (stored_in frame names (record rows { rcs = rcs }) orders') (record rows { rcs = rcs }) orders'
    rc_put_tables =
        subst (λ o. AreTables (stored_in frame names (record rows { rcs = rcs }) o) (record rows { rcs = rcs }) o) (sym e)
        (sound_tables frame names (record rows { rcs = rcs }) (record orders { rcs = (if known then orders.rcs else orders.rcs ++ m ∷ []) }) (by known refl))
      where
        linked : (order : List ℕ) → filter_map (at rcs) order ≡ with_rc rc (design_in frame names rows orders).rcs
            → IsLinked (design_in frame names (record rows { rcs = rcs }) (record orders { rcs = order }))
        linked order f =
            subst (λ xs. IsLinked (record (design_in frame names rows orders) { rcs = xs })) (sym f)
            (linked_parasitics (design_in frame names rows orders) t.linked net (Some rc) (and_from (bytes_eq rc.net net) (is_net_rc rc) (ap (λ z. bytes_eq z net) its ∙ same_self net) amounts) known_net)

        by : (b : Bool) → known ≡ b → AreSound frame names (record rows { rcs = rcs }) (record orders { rcs = (if known then orders.rcs else orders.rcs ++ m ∷ []) })
        by true f =
            let s = tables_sound frame names rows orders t in
            let some = sym there ∙ f in
            subst (λ b. AreSound frame names (record rows { rcs = rcs }) (record orders { rcs = (if b then orders.rcs else orders.rcs ++ m ∷ []) })) (sym f)
            (changed_sound frame names rows orders s net m here rc its rcs put some
            (linked orders.rcs (rcs_changed frame names rows orders s net m here rc its rcs put some)))
        by false f =
            let s = tables_sound frame names rows orders t in
            let none = sym there ∙ f in
            subst (λ b. AreSound frame names (record rows { rcs = rcs }) (record orders { rcs = (if b then orders.rcs else orders.rcs ++ m ∷ []) })) (sym f)
            (pushed_sound frame names rows orders s net m here rc its rcs put
            (linked (orders.rcs ++ m ∷ []) (rcs_pushed frame names rows orders s net m here rc its rcs put none (rc_there ∙ none_is (at rows.rcs m) none))))

-- a row that is not there
pub no_row : {X : Type 0} (o : Option (Bor X)) (r : Option X) → option_copied o ≡ r → is_some o ≡ false → r ≡ None
no_row None r e h = sym e
no_row (Some x) r e h = absurd (false≢true (sym h))

pub some_copied : {X : Type 0} (o : Option (Bor X)) → is_some o ≡ is_some (option_copied o)
some_copied None = refl
some_copied (Some x) = refl
