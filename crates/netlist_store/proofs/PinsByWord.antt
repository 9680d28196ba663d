-- The pin of a name: a port's where the name has no colon, else a pin of the instance before its last colon.

use Rattle.std.proofs.Common.{◌≡◌, ℕ, Bool, true, false, List, [], ◌∷◌, ◌++◌, map, Option, None, Some, refl, sym, ap, ◌∙◌, inl, inr, not}
use Rattle.std.specs.Prelude.{◌&&◌, find, nat_eq, option_map, option_and_then}
use Rattle.std.specs.List.{list_all, flat_map}
use Rattle.std.specs.Str.{bytes_eq}
use Rattle.std.proofs.lemmas.Bool.{cases_Bool, true≢false, and_parts, or_parts, or_right, not-true}
use Rattle.timing_defs.specs.declared.kinds.Split.TheVariants.{Late}
use Rattle.timing_defs.specs.declared.netlist.Port.{Port}
use Rattle.timing_defs.specs.declared.netlist.Inst.{Inst}
use Rattle.timing_defs.specs.declared.library.Cell.{Cell}
use Rattle.timing_defs.specs.declared.library.CellPin.{CellPin}
use Rattle.timing_defs.specs.declared.design.Design.{Design}
use Rattle.timing_defs.specs.Netlist.{Pin, name_of, port_pin, cell_pin, inst_pins, cell_pins, cell_of, pin_named, pin_at, is_listed, are_distinct}
use Rattle.timing_defs.specs.Edits.{inst_named, has_colon, before_last, after_last}
use Rattle.netlist_store.specs.Linked.{IsLinked}
use Rattle.timing_defs.specs.Documents.{is_cell, is_cell_arc, is_cell_test, is_amount}
use Rattle.netlist_store.proofs.ShardLaws.{same_is, same_self}
use Rattle.netlist_store.proofs.ListLaws.{apart_sym, all_weaker, found_keeps}
use Rattle.netlist_store.proofs.LinkLaws.{kept_of}
use Rattle.netlist_store.proofs.WordLaws.{whole_word}

-- a name with a colon before a pin without one is split there
pub colon_in : (inst own : List ℕ) → has_colon (inst ++ 58 ∷ own) ≡ true
colon_in [] own = refl
colon_in (b ∷ bs) own = or_right (nat_eq 58 b) (has_colon (bs ++ 58 ∷ own)) (colon_in bs own)

pub before_is : (inst own : List ℕ) → has_colon own ≡ false → before_last (inst ++ 58 ∷ own) ≡ inst
before_is [] own h = rw h refl
before_is (b ∷ bs) own h = rw (colon_in bs own) (ap (λ xs. b ∷ xs) (before_is bs own h))

pub after_is : (inst own : List ℕ) → has_colon own ≡ false → after_last (inst ++ 58 ∷ own) ≡ own
after_is [] own h = rw h refl
after_is (b ∷ bs) own h = rw (colon_in bs own) (after_is bs own h)

-- the first of two lists that has one
pub found_in : {X : Type 0} (test : X → Bool) (xs ys : List X) → find test xs ≡ None → find test (xs ++ ys) ≡ find test ys
found_in test [] ys h = refl
found_in test (x ∷ xs) ys h = elim (cases_Bool (test x)) [
  | inl e ↦ let f = rw e at h in absurd (cc)
  | inr e ↦ rw e (found_in test xs ys (rw e at h))
]

-- a pin of an instance goes by a name with a colon where its instance and its own name do
module _ (inst own name : List ℕ) (plain : has_colon own ≡ false) (colon : has_colon name ≡ true) where
  parts_same : bytes_eq (inst ++ 58 ∷ own) name ≡ true → (inst ≡ before_last name) × (own ≡ after_last name)
  parts_same h =
      let whole : inst ++ 58 ∷ own ≡ name = same_is (inst ++ 58 ∷ own) name h in
      (sym (before_is inst own plain) ∙ ap before_last whole, sym (after_is inst own plain) ∙ ap after_last whole)

  parts_make : inst ≡ before_last name → own ≡ after_last name → bytes_eq (inst ++ 58 ∷ own) name ≡ true
  parts_make e f =
      ap (bytes_eq (inst ++ 58 ∷ own)) (sym (whole_word name colon))
      ∙ ap (λ xs. bytes_eq (inst ++ 58 ∷ own) (xs ++ 58 ∷ after_last name)) (sym e)
      ∙ ap (λ xs. bytes_eq (inst ++ 58 ∷ own) (inst ++ 58 ∷ xs)) (sym f)
      ∙ same_self (inst ++ 58 ∷ own)

  pub other_inst : bytes_eq inst (before_last name) ≡ false → bytes_eq (inst ++ 58 ∷ own) name ≡ false
  other_inst apart = elim (cases_Bool (bytes_eq (inst ++ 58 ∷ own) name)) [
    | inl h ↦
        let p = parts_same h in
        absurd (true≢false (sym (ap (bytes_eq inst) (sym p.0) ∙ same_self inst) ∙ apart))
    | inr h ↦ h
  ]

  pub same_inst : inst ≡ before_last name → bytes_eq (inst ++ 58 ∷ own) name ≡ bytes_eq own (after_last name)
  same_inst e = elim (cases_Bool (bytes_eq own (after_last name))) [
    | inl h ↦ parts_make e (same_is own (after_last name) h) ∙ sym h
    | inr h ↦ elim (cases_Bool (bytes_eq (inst ++ 58 ∷ own) name)) [
      | inl k ↦
          let p = parts_same k in
          absurd (true≢false (sym (ap (bytes_eq own) (sym p.1) ∙ same_self own) ∙ h))
      | inr k ↦ k ∙ sym h
    ]
  ]

abbrev pub is_plain : CellPin → Bool
is_plain p = not (has_colon p.name)

abbrev goes_by : List ℕ → Pin → Bool
goes_by name pin = bytes_eq (name_of pin) name

-- among the pins of one instance
module _ (inst : Inst) (name : List ℕ) (colon : has_colon name ≡ true) where
  of_other : (ps : List CellPin) → list_all is_plain ps ≡ true → bytes_eq inst.name (before_last name) ≡ false
      → find (goes_by name) (map (cell_pin inst) ps) ≡ None
  of_other [] all apart = refl
  of_other (p ∷ ps) all apart =
      let k = and_parts (is_plain p) (list_all is_plain ps) all in
      let e : bytes_eq (inst.name ++ 58 ∷ p.name) name ≡ false = other_inst inst.name p.name name (not-true (has_colon p.name) k.0) colon apart in
      rw e (of_other ps k.1 apart)

  of_same : (ps : List CellPin) → list_all is_plain ps ≡ true → inst.name ≡ before_last name
      → find (goes_by name) (map (cell_pin inst) ps) ≡ option_map (cell_pin inst) (find (λ p. bytes_eq p.name (after_last name)) ps)
  of_same [] all same = refl
  of_same (p ∷ ps) all same =
      let k = and_parts (is_plain p) (list_all is_plain ps) all in
      let e : bytes_eq (inst.name ++ 58 ∷ p.name) name ≡ bytes_eq p.name (after_last name) = same_inst inst.name p.name name (not-true (has_colon p.name) k.0) colon same in
      elim (cases_Bool (bytes_eq p.name (after_last name))) [
        | inl h ↦ let f : bytes_eq (inst.name ++ 58 ∷ p.name) name ≡ true = e ∙ h in rw f (rw h refl)
        | inr h ↦ let f : bytes_eq (inst.name ++ 58 ∷ p.name) name ≡ false = e ∙ h in rw f (rw h (of_same ps k.1 same))
      ]

-- a name of a list that another list has first
either : {X : Type 0} (test : X → Bool) (xs ys : List X) → find test ys ≡ None → find test (xs ++ ys) ≡ find test xs
either test [] ys h = h
either test (x ∷ xs) ys h = elim (cases_Bool (test x)) [
  | inl e ↦ rw e refl
  | inr e ↦ rw e (either test xs ys h)
]

-- all pins of the instances' cells are plain
module _ (d : Design) (plain : (inst : Inst) → list_all is_plain (cell_pins (cell_of d Late inst)) ≡ true) (name : List ℕ) (colon : has_colon name ≡ true) where
  no_inst_of : (insts : List Inst) → is_listed (map (λ i. i.name) insts) (before_last name) ≡ false → find (goes_by name) (flat_map (inst_pins d) insts) ≡ None
  no_inst_of [] h = refl
  no_inst_of (i ∷ is) h =
      let k = or_parts (bytes_eq (before_last name) i.name) (is_listed (map (λ i. i.name) is) (before_last name)) h in
      let none = of_other i name colon (cell_pins (cell_of d Late i)) (plain i) (apart_sym (before_last name) i.name k.0) in
      found_in (goes_by name) (inst_pins d i) (flat_map (inst_pins d) is) none ∙ no_inst_of is k.1

  pin_among : (insts : List Inst) → are_distinct (map (λ i. i.name) insts) ≡ true
      → find (goes_by name) (flat_map (inst_pins d) insts) ≡ option_and_then (λ i. pin_at d i (after_last name)) (inst_named insts (before_last name))
  pin_among [] distinct = refl
  pin_among (i ∷ is) distinct =
      let k = and_parts (not (is_listed (map (λ i. i.name) is) i.name)) (are_distinct (map (λ i. i.name) is)) distinct in
      elim (cases_Bool (bytes_eq i.name (before_last name))) [
        | inl e ↦
            let same : i.name ≡ before_last name = same_is i.name (before_last name) e in
            let once : is_listed (map (λ i. i.name) is) (before_last name) ≡ false =
            ap (is_listed (map (λ i. i.name) is)) (sym same) ∙ not-true (is_listed (map (λ i. i.name) is) i.name) k.0 in
            rw e (either (goes_by name) (inst_pins d i) (flat_map (inst_pins d) is) (no_inst_of is once)
            ∙ of_same i name colon (cell_pins (cell_of d Late i)) (plain i) same)
        | inr e ↦
            rw e (found_in (goes_by name) (inst_pins d i) (flat_map (inst_pins d) is)
            (of_other i name colon (cell_pins (cell_of d Late i)) (plain i) e) ∙ pin_among is k.1)
      ]

  no_port : (ports : List Port) → list_all (λ port. not (has_colon port.name)) ports ≡ true → find (goes_by name) (map port_pin ports) ≡ None
  no_port [] all = refl
  no_port (p ∷ ps) all =
      let k = and_parts (not (has_colon p.name)) (list_all (λ port. not (has_colon port.name)) ps) all in
      let apart : bytes_eq p.name name ≡ false = elim (cases_Bool (bytes_eq p.name name)) [
        | inl e ↦ absurd (true≢false (sym colon ∙ ap has_colon (sym (same_is p.name name e)) ∙ not-true (has_colon p.name) k.0))
        | inr e ↦ e
      ] in
      rw apart (no_port ps k.1)

-- a linked design: the pin of a name with a colon
pub plain_pins : (d : Design) → IsLinked d → (inst : Inst) → list_all is_plain (cell_pins (cell_of d Late inst)) ≡ true
plain_pins d linked inst = by (cell_of d Late inst) refl
  where
    by : (o : Option Cell) → cell_of d Late inst ≡ o → list_all is_plain (cell_pins (cell_of d Late inst)) ≡ true
    by None e = rw e refl
    by (Some c) e =
        let cells = and_parts _ (list_all is_cell d.late.cells) linked.late in
        let ok : is_cell c ≡ true = found_keeps (λ x. bytes_eq x.name inst.cell) is_cell d.late.cells c cells.1 e in
        let one = and_parts _ (list_all (is_cell_test c) c.tests) ok in
        let two = and_parts _ (list_all (is_cell_arc c) c.arcs) one.0 in
        let three = and_parts _ (list_all (λ p. not (has_colon p.name) && is_amount p.cap.0) c.pins) two.0 in
        ap (λ o. list_all is_plain (cell_pins o)) e
        ∙ all_weaker is_plain (λ p. not (has_colon p.name) && is_amount p.cap.0) c.pins (λ p h. (and_parts (not (has_colon p.name)) (is_amount p.cap.0) h).0) three.1

pub pin_by_word : (d : Design) → IsLinked d → (name : List ℕ) → has_colon name ≡ true
    → pin_named d name ≡ option_and_then (λ i. pin_at d i (after_last name)) (inst_named d.insts (before_last name))
pin_by_word d linked name colon =
    found_in (goes_by name) (map port_pin d.ports) (flat_map (inst_pins d) d.insts) (no_port d (plain_pins d linked) name colon d.ports linked.ports)
    ∙ pin_among d (plain_pins d linked) name colon d.insts (kept_of d linked).inst_names

-- the pin of a name without a colon is a port
module _ (name : List ℕ) (plain : has_colon name ≡ false) where
  no_inst_pin : (inst : Inst) (ps : List CellPin) → find (goes_by name) (map (cell_pin inst) ps) ≡ None
  no_inst_pin inst [] = refl
  no_inst_pin inst (p ∷ ps) =
      let apart : bytes_eq (inst.name ++ 58 ∷ p.name) name ≡ false = elim (cases_Bool (bytes_eq (inst.name ++ 58 ∷ p.name) name)) [
        | inl e ↦ absurd (true≢false (sym (colon_in inst.name p.name) ∙ ap has_colon (same_is (inst.name ++ 58 ∷ p.name) name e) ∙ plain))
        | inr e ↦ e
      ] in
      rw apart (no_inst_pin inst ps)

  no_insts_pin : (d : Design) (insts : List Inst) → find (goes_by name) (flat_map (inst_pins d) insts) ≡ None
  no_insts_pin d [] = refl
  no_insts_pin d (i ∷ is) =
      found_in (goes_by name) (inst_pins d i) (flat_map (inst_pins d) is) (no_inst_pin i (cell_pins (cell_of d Late i))) ∙ no_insts_pin d is

  port_found : (ports : List Port) → find (goes_by name) (map port_pin ports) ≡ option_map port_pin (find (λ p. bytes_eq p.name name) ports)
  port_found [] = refl
  port_found (p ∷ ps) = elim (cases_Bool (bytes_eq p.name name)) [
    | inl e ↦ rw e refl
    | inr e ↦ rw e (port_found ps)
  ]

  pub pin_by_port : (d : Design) → pin_named d name ≡ option_map port_pin (find (λ p. bytes_eq p.name name) d.ports)
  pin_by_port d =
      either (goes_by name) (map port_pin d.ports) (flat_map (inst_pins d) d.insts) (no_insts_pin d d.insts) ∙ port_found d.ports
