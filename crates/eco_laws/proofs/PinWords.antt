-- The pin of a name in a linked design: a port's where the name has no colon, else a pin of the instance before its last colon.

use Rattle.std.proofs.Common.{◌≡◌, ℕ, Bool, true, false, List, [], ◌∷◌, ◌++◌, map, Option, None, Some, refl, sym, ap, subst, ◌∙◌, inl, inr, not}
use Rattle.std.specs.Prelude.{Contains, ◌&&◌, find, nat_eq, option_map, option_and_then}
use Rattle.std.specs.List.{list_any, list_all, flat_map}
use Rattle.std.specs.Str.{bytes_eq}
use Rattle.std.proofs.lemmas.Bool.{cases_Bool, false≢true, true≢false, and_parts, and_from, or_parts, or_right, not-true, eqb-true, eq-eqb}
use Rattle.std.proofs.lemmas.List.Elements.{Contains-append_cases}
use Rattle.timing_defs.specs.declared.kinds.Split.TheVariants.{Late}
use Rattle.timing_defs.specs.declared.netlist.Port.{Port}
use Rattle.timing_defs.specs.declared.netlist.Inst.{Inst}
use Rattle.timing_defs.specs.declared.library.Cell.{Cell}
use Rattle.timing_defs.specs.declared.library.CellPin.{CellPin}
use Rattle.timing_defs.specs.declared.design.Design.{Design}
use Rattle.timing_defs.specs.Netlist.{Pin, name_of, pins, port_pin, cell_pin, inst_pins, cell_pins, cell_of, pin_named, pin_at, is_listed, are_distinct}
use Rattle.timing_defs.specs.Edits.{inst_named, has_colon, before_last, after_last}
use Rattle.timing_defs.specs.Documents.{is_cell, is_cell_arc, is_cell_test, is_amount}
use Rattle.timing_defs.proofs.SameNames.{same_is, same_self}
use Rattle.timing_defs.proofs.Members.{found_in, found_by, all_in, in_map_back, in_flat_map_back}
use Rattle.netlist_store.specs.Linked.{IsLinked}
use Rattle.eco_laws.proofs.Lists.{apart_sym, find_behind, find_before}

-- a word with a colon is its two parts around the last one
pub whole_word : (word : List ℕ) → has_colon word ≡ true → before_last word ++ 58 ∷ after_last word ≡ word
whole_word [] h = absurd (false≢true h)
whole_word (b ∷ bs) h = elim (cases_Bool (list_any (nat_eq 58) bs)) [
  | inl e ↦ rw e (ap (λ xs. b ∷ xs) (whole_word bs e))
  | inr e ↦ elim (cases_Bool (nat_eq b 58)) [
    | inl f ↦ rw e (rw f (ap (λ x. x ∷ bs) (sym (eqb-true b 58 f))))
    | inr f ↦ absurd (false≢true (sym (apart f e) ∙ h))
  ]
]
  where
    turned : (a c : ℕ) → nat_eq a c ≡ false → nat_eq c a ≡ false
    turned a c k = elim (cases_Bool (nat_eq c a)) [
      | inl e ↦ let f : c ≡ a = eqb-true c a e in absurd (true≢false (sym (eq-eqb a c (sym f)) ∙ k))
      | inr e ↦ e
    ]

    apart : nat_eq b 58 ≡ false → list_any (nat_eq 58) bs ≡ false → list_any (nat_eq 58) (b ∷ bs) ≡ false
    apart f e = let g = turned b 58 f in rw (g, e) refl

-- a name with a colon before a pin without one is split there
pub colon_in : (inst own : List ℕ) → has_colon (inst ++ 58 ∷ own) ≡ true
colon_in [] own = refl
colon_in (b ∷ bs) own = or_right (nat_eq 58 b) (has_colon (bs ++ 58 ∷ own)) (colon_in bs own)

pub before_is : (inst own : List ℕ) → has_colon own ≡ false → before_last (inst ++ 58 ∷ own) ≡ inst
before_is [] own h = rw h refl
before_is (b ∷ bs) own h = rw (colon_in bs own) (ap (λ xs. b ∷ xs) (before_is bs own h))

pub after_is : (inst own : List ℕ) → has_colon own ≡ false → after_last (inst ++ 58 ∷ own) ≡ own
after_is [] own h = rw h refl
after_is (b ∷ bs) own h = rw (colon_in bs own) (after_is bs own h)

-- a pin of an instance goes by a name with a colon where its instance and its own name do
module _ (inst own name : List ℕ) (plain : has_colon own ≡ false) (colon : has_colon name ≡ true) where
  parts_same : bytes_eq (inst ++ 58 ∷ own) name ≡ true → (inst ≡ before_last name) × (own ≡ after_last name)
  parts_same h =
      let whole : inst ++ 58 ∷ own ≡ name = same_is (inst ++ 58 ∷ own) name h in
      (sym (before_is inst own plain) ∙ ap before_last whole, sym (after_is inst own plain) ∙ ap after_last whole)

  parts_make : inst ≡ before_last name → own ≡ after_last name → bytes_eq (inst ++ 58 ∷ own) name ≡ true
  parts_make e f =
      ap (bytes_eq (inst ++ 58 ∷ own)) (sym (whole_word name colon))
      ∙ ap (λ xs. bytes_eq (inst ++ 58 ∷ own) (xs ++ 58 ∷ after_last name)) (sym e)
      ∙ ap (λ xs. bytes_eq (inst ++ 58 ∷ own) (inst ++ 58 ∷ xs)) (sym f)
      ∙ same_self (inst ++ 58 ∷ own)

  other_inst : bytes_eq inst (before_last name) ≡ false → bytes_eq (inst ++ 58 ∷ own) name ≡ false
  other_inst apart = elim (cases_Bool (bytes_eq (inst ++ 58 ∷ own) name)) [
    | inl h ↦
        let p = parts_same h in
        absurd (true≢false (sym (ap (bytes_eq inst) (sym p.0) ∙ same_self inst) ∙ apart))
    | inr h ↦ h
  ]

  same_inst : inst ≡ before_last name → bytes_eq (inst ++ 58 ∷ own) name ≡ bytes_eq own (after_last name)
  same_inst e = elim (cases_Bool (bytes_eq own (after_last name))) [
    | inl h ↦ parts_make e (same_is own (after_last name) h) ∙ sym h
    | inr h ↦ elim (cases_Bool (bytes_eq (inst ++ 58 ∷ own) name)) [
      | inl k ↦
          let p = parts_same k in
          absurd (true≢false (sym (ap (bytes_eq own) (sym p.1) ∙ same_self own) ∙ h))
      | inr k ↦ k ∙ sym h
    ]
  ]

abbrev is_plain : CellPin → Bool
is_plain p = not (has_colon p.name)

abbrev goes_by : List ℕ → Pin → Bool
goes_by name pin = bytes_eq (name_of pin) name

-- among the pins of one instance
module _ (inst : Inst) (name : List ℕ) (colon : has_colon name ≡ true) where
  of_other : (ps : List CellPin) → list_all is_plain ps ≡ true → bytes_eq inst.name (before_last name) ≡ false
      → find (goes_by name) (map (cell_pin inst) ps) ≡ None
  of_other [] all apart = refl
  of_other (p ∷ ps) all apart =
      let k = and_parts (is_plain p) (list_all is_plain ps) all in
      let e : bytes_eq (inst.name ++ 58 ∷ p.name) name ≡ false = other_inst inst.name p.name name (not-true (has_colon p.name) k.0) colon apart in
      rw e (of_other ps k.1 apart)

  of_same : (ps : List CellPin) → list_all is_plain ps ≡ true → inst.name ≡ before_last name
      → find (goes_by name) (map (cell_pin inst) ps) ≡ option_map (cell_pin inst) (find (λ p. bytes_eq p.name (after_last name)) ps)
  of_same [] all same = refl
  of_same (p ∷ ps) all same =
      let k = and_parts (is_plain p) (list_all is_plain ps) all in
      let e : bytes_eq (inst.name ++ 58 ∷ p.name) name ≡ bytes_eq p.name (after_last name) =
      same_inst inst.name p.name name (not-true (has_colon p.name) k.0) colon same in
      elim (cases_Bool (bytes_eq p.name (after_last name))) [
        | inl h ↦ let f : bytes_eq (inst.name ++ 58 ∷ p.name) name ≡ true = e ∙ h in rw f (rw h refl)
        | inr h ↦ let f : bytes_eq (inst.name ++ 58 ∷ p.name) name ≡ false = e ∙ h in rw f (rw h (of_same ps k.1 same))
      ]

-- all pins of the instances' cells are plain
module _ (d : Design) (plain : (inst : Inst) → list_all is_plain (cell_pins (cell_of d Late inst)) ≡ true) (name : List ℕ) (colon : has_colon name ≡ true) where
  no_inst_of : (insts : List Inst) → is_listed (map (λ i. i.name) insts) (before_last name) ≡ false → find (goes_by name) (flat_map (inst_pins d) insts) ≡ None
  no_inst_of [] h = refl
  no_inst_of (i ∷ is) h =
      let k = or_parts (bytes_eq (before_last name) i.name) (is_listed (map (λ i. i.name) is) (before_last name)) h in
      let none = of_other i name colon (cell_pins (cell_of d Late i)) (plain i) (apart_sym (before_last name) i.name k.0) in
      find_behind (goes_by name) (inst_pins d i) (flat_map (inst_pins d) is) none ∙ no_inst_of is k.1

  pin_among : (insts : List Inst) → are_distinct (map (λ i. i.name) insts) ≡ true
      → find (goes_by name) (flat_map (inst_pins d) insts) ≡ option_and_then (λ i. pin_at d i (after_last name)) (inst_named insts (before_last name))
  pin_among [] distinct = refl
  pin_among (i ∷ is) distinct =
      let k = and_parts (not (is_listed (map (λ i. i.name) is) i.name)) (are_distinct (map (λ i. i.name) is)) distinct in
      elim (cases_Bool (bytes_eq i.name (before_last name))) [
        | inl e ↦
            let same : i.name ≡ before_last name = same_is i.name (before_last name) e in
            let once : is_listed (map (λ i. i.name) is) (before_last name) ≡ false =
            ap (is_listed (map (λ i. i.name) is)) (sym same) ∙ not-true (is_listed (map (λ i. i.name) is) i.name) k.0 in
            rw e (find_before (goes_by name) (inst_pins d i) (flat_map (inst_pins d) is) (no_inst_of is once)
            ∙ of_same i name colon (cell_pins (cell_of d Late i)) (plain i) same)
        | inr e ↦
            rw e (find_behind (goes_by name) (inst_pins d i) (flat_map (inst_pins d) is)
            (of_other i name colon (cell_pins (cell_of d Late i)) (plain i) e) ∙ pin_among is k.1)
      ]

  no_port : (ports : List Port) → list_all (λ port. not (has_colon port.name)) ports ≡ true → find (goes_by name) (map port_pin ports) ≡ None
  no_port [] all = refl
  no_port (p ∷ ps) all =
      let k = and_parts (not (has_colon p.name)) (list_all (λ port. not (has_colon port.name)) ps) all in
      let apart : bytes_eq p.name name ≡ false = elim (cases_Bool (bytes_eq p.name name)) [
        | inl e ↦ absurd (true≢false (sym colon ∙ ap has_colon (sym (same_is p.name name e)) ∙ not-true (has_colon p.name) k.0))
        | inr e ↦ e
      ] in
      rw apart (no_port ps k.1)

all_left : {X : Type 0} (p q : X → Bool) (xs : List X) → list_all (λ x. p x && q x) xs ≡ true → list_all p xs ≡ true
all_left p q [] h = refl
all_left p q (x ∷ xs) h =
    let parts = and_parts (p x && q x) (list_all (λ y. p y && q y) xs) h in
    and_from (p x) (list_all p xs) (and_parts (p x) (q x) parts.0).0 (all_left p q xs parts.1)

module _ (d : Design) (linked : IsLinked d) where
  -- the parts of a cell, by its library
  pub record IsCellGood (cell : Cell) : Type 0 where
    pub apart : are_distinct (map (λ p. p.name) cell.pins) ≡ true
    pub pins : list_all (λ p. not (has_colon p.name)) cell.pins ≡ true
    pub arcs : list_all (is_cell_arc cell) cell.arcs ≡ true
    pub tests : list_all (is_cell_test cell) cell.tests ≡ true

  pub cell_good : (inst : Inst) (cell : Cell) → cell_of d Late inst ≡ Some cell → IsCellGood cell
  cell_good inst cell e =
      let cells = and_parts _ (list_all is_cell d.late.cells) linked.late in
      let ok : is_cell cell ≡ true = all_in is_cell d.late.cells cell cells.1 (found_in (λ (x : Cell). bytes_eq x.name inst.cell) d.late.cells cell e) in
      let one = and_parts _ (list_all (is_cell_test cell) cell.tests) ok in
      let two = and_parts _ (list_all (is_cell_arc cell) cell.arcs) one.0 in
      let three = and_parts _ (list_all (λ p. not (has_colon p.name) && is_amount p.cap.0) cell.pins) two.0 in
      let four = and_parts _ (are_distinct (map (λ p. p.name) cell.pins)) three.0 in
      record {
        apart = four.1;
        pins = all_left (λ (p : CellPin). not (has_colon p.name)) (λ (p : CellPin). is_amount p.cap.0) cell.pins three.1;
        arcs = two.1;
        tests = one.1;
      }

  plain_pins : (inst : Inst) → list_all is_plain (cell_pins (cell_of d Late inst)) ≡ true
  plain_pins inst = by (cell_of d Late inst) refl
    where
      by : (o : Option Cell) → cell_of d Late inst ≡ o → list_all is_plain (cell_pins (cell_of d Late inst)) ≡ true
      by None e = rw e refl
      by (Some c) e = ap (λ o. list_all is_plain (cell_pins o)) e ∙ (cell_good inst c e).pins

  own_names : (inst : Inst) → are_distinct (map (λ p. p.name) (cell_pins (cell_of d Late inst))) ≡ true
  own_names inst = by (cell_of d Late inst) refl
    where
      by : (o : Option Cell) → cell_of d Late inst ≡ o → are_distinct (map (λ p. p.name) (cell_pins (cell_of d Late inst))) ≡ true
      by None e = rw e refl
      by (Some c) e = ap (λ o. are_distinct (map (λ p. p.name) (cell_pins o))) e ∙ (cell_good inst c e).apart

  inst_names : are_distinct (map (λ i. i.name) d.insts) ≡ true
  inst_names =
      let names = and_parts _ (list_all (λ inst. are_distinct (map (λ conn. conn.pin) inst.conns)) d.insts) linked.names in
      let nets = and_parts _ (are_distinct d.nets) names.0 in
      (and_parts (are_distinct (map (λ port. port.name) d.ports)) (are_distinct (map (λ inst. inst.name) d.insts)) nets.0).1

  pub pin_by_word : (name : List ℕ) → has_colon name ≡ true
      → pin_named d name ≡ option_and_then (λ i. pin_at d i (after_last name)) (inst_named d.insts (before_last name))
  pin_by_word name colon =
      find_behind (goes_by name) (map port_pin d.ports) (flat_map (inst_pins d) d.insts) (no_port d plain_pins name colon d.ports linked.ports)
      ∙ pin_among d plain_pins name colon d.insts inst_names

-- the pin of a name without a colon is a port
module _ (name : List ℕ) (plain : has_colon name ≡ false) where
  no_inst_pin : (inst : Inst) (ps : List CellPin) → find (goes_by name) (map (cell_pin inst) ps) ≡ None
  no_inst_pin inst [] = refl
  no_inst_pin inst (p ∷ ps) =
      let apart : bytes_eq (inst.name ++ 58 ∷ p.name) name ≡ false = elim (cases_Bool (bytes_eq (inst.name ++ 58 ∷ p.name) name)) [
        | inl e ↦ absurd (true≢false (sym (colon_in inst.name p.name) ∙ ap has_colon (same_is (inst.name ++ 58 ∷ p.name) name e) ∙ plain))
        | inr e ↦ e
      ] in
      rw apart (no_inst_pin inst ps)

  no_insts_pin : (d : Design) (insts : List Inst) → find (goes_by name) (flat_map (inst_pins d) insts) ≡ None
  no_insts_pin d [] = refl
  no_insts_pin d (i ∷ is) =
      find_behind (goes_by name) (inst_pins d i) (flat_map (inst_pins d) is) (no_inst_pin i (cell_pins (cell_of d Late i))) ∙ no_insts_pin d is

  port_found : (ports : List Port) → find (goes_by name) (map port_pin ports) ≡ option_map port_pin (find (λ p. bytes_eq p.name name) ports)
  port_found [] = refl
  port_found (p ∷ ps) = elim (cases_Bool (bytes_eq p.name name)) [
    | inl e ↦ rw e refl
    | inr e ↦ rw e (port_found ps)
  ]

  pub pin_by_port : (d : Design) → pin_named d name ≡ option_map port_pin (find (λ p. bytes_eq p.name name) d.ports)
  pin_by_port d =
      find_before (goes_by name) (map port_pin d.ports) (flat_map (inst_pins d) d.insts) (no_insts_pin d d.insts) ∙ port_found d.ports

-- each pin of a linked design is found by its name
module _ (d : Design) (linked : IsLinked d) where
  port_names : are_distinct (map (λ port. port.name) d.ports) ≡ true
  port_names =
      let names = and_parts _ (list_all (λ inst. are_distinct (map (λ conn. conn.pin) inst.conns)) d.insts) linked.names in
      let nets = and_parts _ (are_distinct d.nets) names.0 in
      (and_parts (are_distinct (map (λ port. port.name) d.ports)) (are_distinct (map (λ inst. inst.name) d.insts)) nets.0).0

  port_self : (port : Port) → Contains d.ports port → pin_named d port.name ≡ Some (port_pin port)
  port_self port c =
      let plain = not-true (has_colon port.name) (all_in (λ (r : Port). not (has_colon r.name)) d.ports port linked.ports c) in
      pin_by_port port.name plain d ∙ ap (option_map port_pin) (found_by (λ (r : Port). r.name) d.ports port port_names c)

  own_self : (inst : Inst) (pin : CellPin) → Contains d.insts inst → Contains (cell_pins (cell_of d Late inst)) pin
      → pin_named d (inst.name ++ 58 ∷ pin.name) ≡ Some (cell_pin inst pin)
  own_self inst pin c k =
      let plain = not-true (has_colon pin.name) (all_in is_plain (cell_pins (cell_of d Late inst)) pin (plain_pins d linked inst) k) in
      pin_by_word d linked (inst.name ++ 58 ∷ pin.name) (colon_in inst.name pin.name)
      ∙ (λ t. option_and_then (λ i. pin_at d i (after_is inst.name pin.name plain t)) (inst_named d.insts (before_is inst.name pin.name plain t)))
      ∙ ap (option_and_then (λ i. pin_at d i pin.name)) (found_by (λ (i : Inst). i.name) d.insts inst (inst_names d linked) c)
      ∙ ap (option_map (cell_pin inst)) (found_by (λ (p : CellPin). p.name) (cell_pins (cell_of d Late inst)) pin (own_names d linked inst) k)

  pub named_self : (pin : Pin) → Contains (pins d) pin → pin_named d (name_of pin) ≡ Some pin
  named_self pin c = elim (Contains-append_cases (map port_pin d.ports) (flat_map (inst_pins d) d.insts) pin c) [
    | inl k ↦
        let m = in_map_back port_pin d.ports pin k in
        subst (λ (p : Pin). pin_named d (name_of p) ≡ Some p) m.same (port_self m.item m.within)
    | inr k ↦
        let a = in_flat_map_back (inst_pins d) d.insts pin k in
        let m = in_map_back (cell_pin a.item) (cell_pins (cell_of d Late a.item)) pin a.inside in
        subst (λ (p : Pin). pin_named d (name_of p) ≡ Some p) m.same (own_self a.item m.item a.within m.within)
  ]
