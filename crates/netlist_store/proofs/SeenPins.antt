-- The pins on a net as the net sees them, instance by instance: what changes of other connections leave.

use Rattle.std.proofs.Common.{◌≡◌, ℕ, Bool, true, false, List, [], ◌∷◌, ◌++◌, map, filter, Option, None, Some, refl, sym, ap, ◌∙◌, inl, inr, not}
use Rattle.std.specs.Prelude.{option_and_then, option_map, is_none, if◌then◌else◌}
use Rattle.std.specs.List.{list_all, flat_map, filter_map}
use Rattle.std.specs.Option.{option_map_or}
use Rattle.std.specs.Str.{bytes_eq}
use Rattle.std.proofs.lemmas.Bool.{cases_Bool, false≢true, true≢false, and_parts, not-true}
use Rattle.std.proofs.lemmas.List.{map-append}
use Rattle.std.proofs.lemmas.List.Elements.{filter-append}
use Rattle.std.proofs.lemmas.List.Concat.{flat_map-cons}
use Rattle.timing_defs.specs.declared.kinds.Dir.{Dir}
use Rattle.timing_defs.specs.declared.library.CellPin.{CellPin}
use Rattle.timing_defs.specs.declared.library.Library.{Library}
use Rattle.timing_defs.specs.declared.netlist.Inst.{Inst}
use Rattle.timing_defs.specs.declared.netlist.Conn.{Conn}
use Rattle.timing_defs.specs.declared.design.Design.{Design}
use Rattle.timing_defs.specs.Netlist.{Pin, port_pin, cell_pin, cell_pins, cell_named, inst_pins, pins, conn_net, is_on, is_listed, are_distinct}
use Rattle.timing_defs.specs.Edits.{inst_named, before_last, after_last, on_inst, with_conns}
use Rattle.netlist_store.proofs.ShardLaws.{same_is}
use Rattle.netlist_store.proofs.ListLaws.{apart_sym}
use Rattle.netlist_store.proofs.InstPins.{on_found}

-- a pin as its net sees it: its instance by name and cell, without the instance's other connections
pub record Seen : Type 0 where
  pub owner : Option (List ℕ × List ℕ)
  pub own : List ℕ
  pub dir : Dir

abbrev pub seen_owner : Option Inst → Option (List ℕ × List ℕ)
seen_owner None = None
seen_owner (Some inst) = Some (inst.name, inst.cell)

abbrev pub seen : Pin → Seen
seen pin = record { owner = seen_owner pin.owner; own = pin.own; dir = pin.dir }

abbrev pub seen_on : Design → List ℕ → List Seen
seen_on d net = map seen (filter (is_on net) (pins d))

-- the net of a pin word, among instances
abbrev pub word_in : List Inst → List ℕ → Option (List ℕ)
word_in insts w = option_and_then (λ i. conn_net i.conns (after_last w)) (inst_named insts (before_last w))

-- lists of pins by instances
module _ {Y : Type 0} (g : Inst → List Y) where
  pub none_pushed : (insts : List Inst) (i : Inst) → g i ≡ [] → flat_map g (insts ++ i ∷ []) ≡ flat_map g insts
  none_pushed [] i e = flat_map-cons g i [] ∙ ap (λ xs. xs ++ flat_map g []) e
  none_pushed (j ∷ js) i e = flat_map-cons g j (js ++ i ∷ []) ∙ ap (λ xs. g j ++ xs) (none_pushed js i e) ∙ sym (flat_map-cons g j js)

  module _ (name : List ℕ) where
    absent_kept : (change : Inst → Inst) (insts : List Inst) → is_listed (map (λ i. i.name) insts) name ≡ false → on_inst name change insts ≡ insts
    absent_kept change [] h = refl
    absent_kept change (i ∷ is) h = elim (cases_Bool (bytes_eq name i.name)) [
      | inl e ↦ let f : true ≡ false = rw e at h in absurd (true≢false f)
      | inr e ↦ let f = apart_sym name i.name e in rw f (ap (λ xs. i ∷ xs) (absent_kept change is (rw e at h)))
    ]

    absent_left : (insts : List Inst) → is_listed (map (λ i. i.name) insts) name ≡ false → filter (λ i. not (bytes_eq i.name name)) insts ≡ insts
    absent_left [] h = refl
    absent_left (i ∷ is) h = elim (cases_Bool (bytes_eq name i.name)) [
      | inl e ↦ let f : true ≡ false = rw e at h in absurd (true≢false f)
      | inr e ↦ let f = apart_sym name i.name e in rw f (ap (λ xs. i ∷ xs) (absent_left is (rw e at h)))
    ]

    unlisted : (i : Inst) (is : List Inst) → bytes_eq i.name name ≡ true → are_distinct (map (λ j. j.name) (i ∷ is)) ≡ true
        → is_listed (map (λ j. j.name) is) name ≡ false
    unlisted i is e d =
        ap (is_listed (map (λ j. j.name) is)) (sym (same_is i.name name e))
        ∙ not-true (is_listed (map (λ j. j.name) is) i.name) (and_parts (not (is_listed (map (λ j. j.name) is) i.name)) (are_distinct (map (λ j. j.name) is)) d).0

    rest : (i : Inst) (is : List Inst) → are_distinct (map (λ j. j.name) (i ∷ is)) ≡ true → are_distinct (map (λ j. j.name) is) ≡ true
    rest i is d = (and_parts (not (is_listed (map (λ j. j.name) is) i.name)) (are_distinct (map (λ j. j.name) is)) d).1

    -- the one instance of a name is changed
    pub on_kept : (change : Inst → Inst) (insts : List Inst) → are_distinct (map (λ i. i.name) insts) ≡ true
        → ((i : Inst) → inst_named insts name ≡ Some i → g (change i) ≡ g i) → flat_map g (on_inst name change insts) ≡ flat_map g insts
    on_kept change [] d each = refl
    on_kept change (i ∷ is) d each = elim (cases_Bool (bytes_eq i.name name)) [
      | inl e ↦
          let same : g (change i) ≡ g i = each i (rw e refl) in
          rw e (flat_map-cons g (change i) (on_inst name change is)
          ∙ ap (λ xs. xs ++ flat_map g (on_inst name change is)) same
          ∙ ap (λ xs. g i ++ flat_map g xs) (absent_kept change is (unlisted i is e d))
          ∙ sym (flat_map-cons g i is))
      | inr e ↦
          rw e (flat_map-cons g i (on_inst name change is)
          ∙ ap (λ xs. g i ++ xs) (on_kept change is (rest i is d) (λ j f. each j (rw e f)))
          ∙ sym (flat_map-cons g i is))
    ]

    -- the one instance of a name goes
    pub left_kept : (insts : List Inst) → are_distinct (map (λ i. i.name) insts) ≡ true
        → ((i : Inst) → inst_named insts name ≡ Some i → g i ≡ []) → flat_map g (filter (λ i. not (bytes_eq i.name name)) insts) ≡ flat_map g insts
    left_kept [] d each = refl
    left_kept (i ∷ is) d each = elim (cases_Bool (bytes_eq i.name name)) [
      | inl e ↦
          let same : g i ≡ [] = each i (rw e refl) in
          rw e (ap (flat_map g) (absent_left is (unlisted i is e d))
          ∙ sym (flat_map-cons g i is ∙ ap (λ xs. xs ++ flat_map g is) same))
      | inr e ↦
          rw e (flat_map-cons g i (filter (λ j. not (bytes_eq j.name name)) is)
          ∙ ap (λ xs. g i ++ xs) (left_kept is (rest i is d) (λ j f. each j (rw e f)))
          ∙ sym (flat_map-cons g i is))
    ]

module _ (late : Library) (net : List ℕ) where
  -- whether a pin of an instance is on the net, by its connections
  abbrev pub joins_here : List Conn → List ℕ → Bool
  joins_here conns own = option_map_or (bytes_eq net) (conn_net conns own) false

  abbrev pub seen_of : Inst → List Seen
  seen_of inst = map seen (filter (is_on net) (map (cell_pin inst) (cell_pins (cell_named late.cells inst.cell))))

  same_seen : (a b : Inst) (p : CellPin) → a.name ≡ b.name → a.cell ≡ b.cell → seen (cell_pin a p) ≡ seen (cell_pin b p)
  same_seen a b p name cell = λ k. record { owner = Some (name k, cell k); own = p.name; dir = p.dir }

  seen_alike : (a b : Inst) → a.name ≡ b.name → a.cell ≡ b.cell → ((own : List ℕ) → joins_here a.conns own ≡ joins_here b.conns own)
      → (ps : List CellPin) → map seen (filter (is_on net) (map (cell_pin a) ps)) ≡ map seen (filter (is_on net) (map (cell_pin b) ps))
  seen_alike a b name cell same [] = refl
  seen_alike a b name cell same (p ∷ ps) = elim (cases_Bool (joins_here b.conns p.name)) [
    | inl e ↦
        let f : joins_here a.conns p.name ≡ true = same p.name ∙ e in
        rw f (rw e ((λ k. same_seen a b p name cell k ∷ map seen (filter (is_on net) (map (cell_pin a) ps)))
        ∙ ap (λ xs. seen (cell_pin b p) ∷ xs) (seen_alike a b name cell same ps)))
    | inr e ↦ let f : joins_here a.conns p.name ≡ false = same p.name ∙ e in rw f (rw e (seen_alike a b name cell same ps))
  ]

  pub alike : (a b : Inst) → a.name ≡ b.name → a.cell ≡ b.cell → ((own : List ℕ) → joins_here a.conns own ≡ joins_here b.conns own) → seen_of a ≡ seen_of b
  alike a b name cell same =
      seen_alike a b name cell same (cell_pins (cell_named late.cells a.cell))
      ∙ ap (λ c. map seen (filter (is_on net) (map (cell_pin b) (cell_pins (cell_named late.cells c))))) cell

  none_among : (a : Inst) → ((own : List ℕ) → joins_here a.conns own ≡ false) → (ps : List CellPin) → map seen (filter (is_on net) (map (cell_pin a) ps)) ≡ []
  none_among a off [] = refl
  none_among a off (p ∷ ps) = let e = off p.name in rw e (none_among a off ps)

  pub none_seen : (a : Inst) → ((own : List ℕ) → joins_here a.conns own ≡ false) → seen_of a ≡ []
  none_seen a off = none_among a off (cell_pins (cell_named late.cells a.cell))

  -- an instance none of whose connections names the net
  pub not_named : (conns : List Conn) → is_listed (filter_map (λ conn. conn.net) conns) net ≡ false → (own : List ℕ) → joins_here conns own ≡ false
  not_named [] h own = refl
  not_named (c ∷ cs) h own = by c.net refl (λ k. not_named cs k own)
    where
      by : (o : Option (List ℕ)) → c.net ≡ o → (is_listed (filter_map (λ conn. conn.net) cs) net ≡ false → joins_here cs own ≡ false) → joins_here (c ∷ cs) own ≡ false
      by None f later =
          let k : is_listed (filter_map (λ conn. conn.net) cs) net ≡ false = rw f at h in
          elim (cases_Bool (bytes_eq c.pin own)) [ inl e ↦ rw e (rw f refl) | inr e ↦ rw e (later k) ]
      by (Some n) f later = elim (cases_Bool (bytes_eq net n)) [
        | inl g ↦ let k : true ≡ false = rw g at (rw f at h) in absurd (true≢false k)
        | inr g ↦
            let k : is_listed (filter_map (λ conn. conn.net) cs) net ≡ false = rw g at (rw f at h) in
            elim (cases_Bool (bytes_eq c.pin own)) [ inl e ↦ rw e (rw f g) | inr e ↦ rw e (later k) ]
      ]

  pub open_off : (conns : List Conn) → list_all (λ conn. is_none conn.net) conns ≡ true → (own : List ℕ) → joins_here conns own ≡ false
  open_off [] h own = refl
  open_off (c ∷ cs) h own =
      let k = and_parts (is_none c.net) (list_all (λ conn. is_none conn.net) cs) h in
      elim (cases_Bool (bytes_eq c.pin own)) [ inl e ↦ rw e (by c.net k.0) | inr e ↦ rw e (open_off cs k.1 own) ]
    where
      by : (o : Option (List ℕ)) → is_none o ≡ true → option_map_or (bytes_eq net) o false ≡ false
      by None f = refl
      by (Some n) f = absurd (false≢true f)

  -- one pin changes its net, and neither net is this one
  module _ (w : List ℕ) (change : List Conn → List Conn) (to : Option (List ℕ)) (apart : option_map_or (bytes_eq net) to false ≡ false)
      (told : (conns : List Conn) (q : List ℕ) → conn_net (change conns) q ≡ (if bytes_eq q (after_last w) then to else conn_net conns q)) where
    abbrev moved : List Inst → List Inst
    moved insts = on_inst (before_last w) (with_conns change) insts

    away_conns : (conns : List Conn) → joins_here conns (after_last w) ≡ false → (q : List ℕ) → joins_here (change conns) q ≡ joins_here conns q
    away_conns conns off q = elim (cases_Bool (bytes_eq q (after_last w))) [
      | inl e ↦
          ap (λ o. option_map_or (bytes_eq net) o false) (told conns q ∙ (rw e refl)) ∙ apart
          ∙ sym (ap (joins_here conns) (same_is q (after_last w) e) ∙ off)
      | inr e ↦ ap (λ o. option_map_or (bytes_eq net) o false) (told conns q ∙ (rw e refl))
    ]

    off_at : (insts : List Inst) (i : Inst) → option_map_or (bytes_eq net) (word_in insts w) false ≡ false → inst_named insts (before_last w) ≡ Some i
        → joins_here i.conns (after_last w) ≡ false
    off_at insts i off e = sym (ap (λ o. option_map_or (bytes_eq net) (option_and_then (λ (j : Inst). conn_net j.conns (after_last w)) o) false) e) ∙ off

    pub move_kept : (insts : List Inst) → are_distinct (map (λ i. i.name) insts) ≡ true → option_map_or (bytes_eq net) (word_in insts w) false ≡ false
        → flat_map seen_of (moved insts) ≡ flat_map seen_of insts
    move_kept insts distinct off =
        on_kept seen_of (before_last w) (with_conns change) insts distinct
        (λ i e. alike (with_conns change i) i refl refl (away_conns i.conns (off_at insts i off e)))

    named_other : (q : List ℕ) → bytes_eq q (before_last w) ≡ false → (insts : List Inst) → inst_named (moved insts) q ≡ inst_named insts q
    named_other q other [] = refl
    named_other q other (i ∷ is) = elim (cases_Bool (bytes_eq i.name (before_last w))) [
      | inl e ↦
          let f : bytes_eq i.name q ≡ false = elim (cases_Bool (bytes_eq i.name q)) [
            | inl g ↦ absurd (true≢false (sym e ∙ ap (λ z. bytes_eq z (before_last w)) (same_is i.name q g) ∙ other))
            | inr g ↦ g
          ] in
          rw e (rw f (named_other q other is))
      | inr e ↦ elim (cases_Bool (bytes_eq i.name q)) [ inl g ↦ rw e (rw g refl) | inr g ↦ rw e (rw g (named_other q other is)) ]
    ]

    -- other words stay away from the net
    pub words_away : (insts : List Inst) (v : List ℕ) → option_map_or (bytes_eq net) (word_in insts v) false ≡ false
        → option_map_or (bytes_eq net) (word_in insts w) false ≡ false → option_map_or (bytes_eq net) (word_in (moved insts) v) false ≡ false
    words_away insts v off off2 = elim (cases_Bool (bytes_eq (before_last v) (before_last w))) [
      | inl e ↦
          let same = same_is (before_last v) (before_last w) e in
          ap (λ o. option_map_or (bytes_eq net) (option_and_then (λ (j : Inst). conn_net j.conns (after_last v)) o) false)
          (ap (inst_named (moved insts)) same ∙ on_found (before_last w) (with_conns change) (λ i. refl) insts)
          ∙ here (inst_named insts (before_last w)) (ap (inst_named insts) (sym same)) refl
      | inr e ↦ ap (λ o. option_map_or (bytes_eq net) (option_and_then (λ (j : Inst). conn_net j.conns (after_last v)) o) false) (named_other (before_last v) e insts) ∙ off
    ]
      where
        here : (o : Option Inst) → o ≡ inst_named insts (before_last v) → inst_named insts (before_last w) ≡ o
            → option_map_or (bytes_eq net) (option_and_then (λ (j : Inst). conn_net j.conns (after_last v)) (option_map (with_conns change) o)) false ≡ false
        here None f g = refl
        here (Some i) f g =
            away_conns i.conns (off_at insts i off2 g) (after_last v)
            ∙ ap (λ o. option_map_or (bytes_eq net) (option_and_then (λ (j : Inst). conn_net j.conns (after_last v)) o) false) f ∙ off

-- the pins on a net by ports and instances
pub seen_by_insts : (d : Design) (net : List ℕ)
    → seen_on d net ≡ map seen (filter (is_on net) (map port_pin d.ports)) ++ flat_map (seen_of d.late net) d.insts
seen_by_insts d net =
    ap (map seen) (filter-append (is_on net) (map port_pin d.ports) (flat_map (inst_pins d) d.insts))
    ∙ map-append seen (filter (is_on net) (map port_pin d.ports)) (filter (is_on net) (flat_map (inst_pins d) d.insts))
    ∙ ap (λ xs. map seen (filter (is_on net) (map port_pin d.ports)) ++ xs) (by d.insts)
  where
    by : (insts : List Inst) → map seen (filter (is_on net) (flat_map (inst_pins d) insts)) ≡ flat_map (seen_of d.late net) insts
    by [] = refl
    by (i ∷ is) =
        ap (λ xs. map seen (filter (is_on net) xs)) (flat_map-cons (inst_pins d) i is)
        ∙ ap (map seen) (filter-append (is_on net) (inst_pins d i) (flat_map (inst_pins d) is))
        ∙ map-append seen (filter (is_on net) (inst_pins d i)) (filter (is_on net) (flat_map (inst_pins d) is))
        ∙ ap (λ xs. map seen (filter (is_on net) (inst_pins d i)) ++ xs) (by is)
        ∙ sym (flat_map-cons (seen_of d.late net) i is)
