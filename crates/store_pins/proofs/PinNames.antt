-- The names of the pins of a linked design are names, and are distinct.

use Rattle.std.proofs.Common.{◌≡◌, ◌⊎◌, ℕ, Bool, true, false, not, List, [], ◌∷◌, ◌++◌, map, length, Option, None, Some, refl, sym, ap, ◌∙◌, inl, inr, arith}
use Rattle.std.specs.Prelude.{find, nat_eq, nat_le, ◌==◌, ◌&&◌, ◌||◌}
use Rattle.std.specs.List.{list_all, flat_map}
use Rattle.std.specs.Str.{bytes_eq}
use Rattle.std.proofs.lemmas.Bool.{cases_Bool, false≢true, ne_eqb, and_parts, and_from, not-true, or_from}
use Rattle.std.proofs.lemmas.List.{map-append}
use Rattle.std.proofs.lemmas.List.Concat.{flat_map-cons}
use Rattle.std.proofs.lemmas.List.Folds.{list_all-append}
use Rattle.std.proofs.lemmas.Simd.{map-map}
use Rattle.timing_defs.specs.Names.{is_graphic, is_name}
use Rattle.timing_defs.specs.declared.library.Cell.{Cell}
use Rattle.timing_defs.specs.declared.library.CellPin.{CellPin}
use Rattle.timing_defs.specs.declared.library.Library.{Library}
use Rattle.timing_defs.specs.declared.netlist.Port.{Port}
use Rattle.timing_defs.specs.declared.netlist.Inst.{Inst}
use Rattle.timing_defs.specs.declared.design.Design.{Design}
use Rattle.timing_defs.specs.Netlist.{name_of, port_pin, cell_pin, cell_pins, cell_named, inst_pins, pins, is_listed, are_distinct}
use Rattle.timing_defs.specs.Edits.{has_colon, before_last}
use Rattle.timing_defs.specs.Documents.{is_amount, is_cell, is_cell_arc, is_cell_test, is_library}
use Rattle.timing_defs.proofs.SameNames.{same_is, same_self}
use Rattle.netlist_store.specs.Linked.{IsLinked}

-- the name `instance:pin`
pub joined_name : (a b : List ℕ) → is_name a ≡ true → is_name b ≡ true → is_name (a ++ 58 ∷ b) ≡ true
joined_name [] b h k = absurd (false≢true h)
joined_name (x ∷ xs) b h k =
    let some : (length (x ∷ xs ++ 58 ∷ b) == 0) ≡ false = ne_eqb (length (x ∷ xs ++ 58 ∷ b)) 0 (λ e. omega (arith, e)) in
    ap (λ t. not t && list_all is_graphic (x ∷ xs ++ 58 ∷ b)) some
    ∙ list_all-append is_graphic (x ∷ xs) (58 ∷ b)
    ∙ ap (λ t. t && list_all is_graphic (58 ∷ b)) (and_parts (not (length (x ∷ xs) == 0)) (list_all is_graphic (x ∷ xs)) h).1
    ∙ (and_parts (not (length b == 0)) (list_all is_graphic b) k).1

-- names in a list of two parts
pub listed_parts : (xs ys : List (List ℕ)) (q : List ℕ) → is_listed (xs ++ ys) q ≡ (is_listed xs q || is_listed ys q)
listed_parts [] ys q = refl
listed_parts (x ∷ xs) ys q = elim (cases_Bool (bytes_eq q x)) [ inl h ↦ rw h refl | inr h ↦ rw h (listed_parts xs ys q) ]

later : (a b : Bool) → b ≡ true → (a || b) ≡ true
later true b h = refl
later false b h = h

pub distinct_parts : (xs ys : List (List ℕ)) → are_distinct xs ≡ true → are_distinct ys ≡ true
    → ((q : List ℕ) → is_listed xs q ≡ true → is_listed ys q ≡ false) → are_distinct (xs ++ ys) ≡ true
distinct_parts [] ys d e apart = e
distinct_parts (x ∷ xs) ys d e apart =
    let parts = and_parts (not (is_listed xs x)) (are_distinct xs) d in
    let lone : is_listed (xs ++ ys) x ≡ false =
    listed_parts xs ys x ∙ or_from (is_listed xs x) (is_listed ys x) (not-true (is_listed xs x) parts.0) (apart x (rw (same_self x) refl)) in
    and_from (not (is_listed (xs ++ ys) x)) (are_distinct (xs ++ ys)) (ap not lone)
    (distinct_parts xs ys parts.1 e (λ q h. apart q (later (bytes_eq q x) (is_listed xs q) h)))

-- the instance of a pin's name is what stands before its last colon
colon_in : (a p : List ℕ) → has_colon (a ++ 58 ∷ p) ≡ true
colon_in [] p = refl
colon_in (x ∷ a) p = elim (cases_Bool (nat_eq 58 x)) [ inl h ↦ rw h refl | inr h ↦ rw h (colon_in a p) ]

before_colon : (a p : List ℕ) → has_colon p ≡ false → before_last (a ++ 58 ∷ p) ≡ a
before_colon [] p none = rw none refl
before_colon (x ∷ a) p none = rw (colon_in a p) (ap (λ xs. x ∷ xs) (before_colon a p none))

after_same : (a x y : List ℕ) → bytes_eq (a ++ 58 ∷ x) (a ++ 58 ∷ y) ≡ true → x ≡ y
after_same a x y h = strip a (same_is (a ++ 58 ∷ x) (a ++ 58 ∷ y) h)
  where
    strip : (b : List ℕ) → b ++ 58 ∷ x ≡ b ++ 58 ∷ y → x ≡ y
    strip [] e = cc
    strip (z ∷ b) e = strip b (tails e)
      where
        tails : z ∷ (b ++ 58 ∷ x) ≡ z ∷ (b ++ 58 ∷ y) → b ++ 58 ∷ x ≡ b ++ 58 ∷ y
        tails f = cc

-- the names of the pins of one instance
abbrev pin_words : Inst → List CellPin → List (List ℕ)
pin_words i ps = map (λ pin. name_of (cell_pin i pin)) ps

abbrev inst_words : List Cell → Inst → List (List ℕ)
inst_words cells i = pin_words i (cell_pins (cell_named cells i.cell))

word_of : (i : Inst) (ps : List CellPin) (q : List ℕ) → list_all (λ p. not (has_colon p.name)) ps ≡ true
    → is_listed (pin_words i ps) q ≡ true → (before_last q ≡ i.name) × (has_colon q ≡ true)
word_of i [] q free h = absurd (false≢true h)
word_of i (p ∷ ps) q free h =
    let parts = and_parts (not (has_colon p.name)) (list_all (λ r. not (has_colon r.name)) ps) free in
    elim (cases_Bool (bytes_eq q (i.name ++ 58 ∷ p.name))) [
      | inl e ↦
          let same : q ≡ i.name ++ 58 ∷ p.name = same_is q (i.name ++ 58 ∷ p.name) e in
          (ap before_last same ∙ before_colon i.name p.name (not-true (has_colon p.name) parts.0), ap has_colon same ∙ colon_in i.name p.name)
      | inr e ↦
          let rest : is_listed (pin_words i ps) q ≡ true = rw e at h in
          word_of i ps q parts.1 rest
    ]

words_distinct : (i : Inst) (ps : List CellPin) → are_distinct (map (λ p. p.name) ps) ≡ true → are_distinct (pin_words i ps) ≡ true
words_distinct i [] d = refl
words_distinct i (p ∷ ps) d =
    let parts = and_parts (not (is_listed (map (λ r. r.name) ps) p.name)) (are_distinct (map (λ r. r.name) ps)) d in
    and_from (not (is_listed (pin_words i ps) (i.name ++ 58 ∷ p.name))) (are_distinct (pin_words i ps)) (lone ps parts.0) (words_distinct i ps parts.1)
  where
    lone : (rs : List CellPin) → not (is_listed (map (λ r. r.name) rs) p.name) ≡ true → not (is_listed (pin_words i rs) (i.name ++ 58 ∷ p.name)) ≡ true
    lone [] h = refl
    lone (r ∷ rs) h = elim (cases_Bool (bytes_eq (i.name ++ 58 ∷ p.name) (i.name ++ 58 ∷ r.name))) [
      | inl e ↦
          let same : p.name ≡ r.name = after_same i.name p.name r.name e in
          let g : bytes_eq p.name r.name ≡ true = ap (bytes_eq p.name) (sym same) ∙ same_self p.name in
          let f : not true ≡ true = rw g at h in
          absurd (false≢true f)
      | inr e ↦ rw e (lone rs (rest (bytes_eq p.name r.name) (is_listed (map (λ s. s.name) rs) p.name) h))
    ]
      where
        rest : (a b : Bool) → not (a || b) ≡ true → not b ≡ true
        rest true b h = absurd (false≢true h)
        rest false b h = h

-- a cell has distinct pins without colons
pub record IsPinned (cells : List Cell) (i : Inst) : Type 0 where
  pub apart : are_distinct (map (λ p. p.name) (cell_pins (cell_named cells i.cell))) ≡ true
  pub free : list_all (λ p. not (has_colon p.name)) (cell_pins (cell_named cells i.cell)) ≡ true

module _ (cells : List Cell) (pinned : (i : Inst) → IsPinned cells i) where
  -- a word of several instances' pins names one of them
  word_among : (insts : List Inst) (q : List ℕ) → is_listed (flat_map (inst_words cells) insts) q ≡ true
      → (is_listed (map (λ i. i.name) insts) (before_last q) ≡ true) × (has_colon q ≡ true)
  word_among [] q h = absurd (false≢true h)
  word_among (i ∷ is) q h = by (λ g. word_among is q g) (cases_Bool (is_listed (inst_words cells i) q))
    where
      parts : (is_listed (inst_words cells i) q || is_listed (flat_map (inst_words cells) is) q) ≡ true
      parts =
          sym (ap (λ xs. is_listed xs q) (flat_map-cons (inst_words cells) i is)
          ∙ listed_parts (inst_words cells i) (flat_map (inst_words cells) is) q) ∙ h

      by : (is_listed (flat_map (inst_words cells) is) q ≡ true → (is_listed (map (λ j. j.name) is) (before_last q) ≡ true) × (has_colon q ≡ true))
          → (is_listed (inst_words cells i) q ≡ true) ⊎ (is_listed (inst_words cells i) q ≡ false)
          → (is_listed (map (λ j. j.name) (i ∷ is)) (before_last q) ≡ true) × (has_colon q ≡ true)
      by again (inl e) =
          let here = word_of i (cell_pins (cell_named cells i.cell)) q (pinned i).free e in
          let own : bytes_eq (before_last q) i.name ≡ true = ap (λ n. bytes_eq n i.name) here.0 ∙ same_self i.name in
          (rw own refl, here.1)
      by again (inr e) =
          let rest : is_listed (flat_map (inst_words cells) is) q ≡ true = rw e at parts in
          let found = again rest in
          (later (bytes_eq (before_last q) i.name) (is_listed (map (λ j. j.name) is) (before_last q)) found.0, found.1)

  insts_distinct : (insts : List Inst) → are_distinct (map (λ i. i.name) insts) ≡ true
      → are_distinct (flat_map (inst_words cells) insts) ≡ true
  insts_distinct [] d = refl
  insts_distinct (i ∷ is) d =
      let parts = and_parts (not (is_listed (map (λ j. j.name) is) i.name)) (are_distinct (map (λ j. j.name) is)) d in
      ap are_distinct (flat_map-cons (inst_words cells) i is)
      ∙ distinct_parts (inst_words cells i) (flat_map (inst_words cells) is)
      (words_distinct i (cell_pins (cell_named cells i.cell)) (pinned i).apart)
      (insts_distinct is parts.1)
      (λ q e. away q parts.0 (word_of i (cell_pins (cell_named cells i.cell)) q (pinned i).free e).0)
    where
      away : (q : List ℕ) → not (is_listed (map (λ j. j.name) is) i.name) ≡ true → before_last q ≡ i.name → is_listed (flat_map (inst_words cells) is) q ≡ false
      away q once own = elim (cases_Bool (is_listed (flat_map (inst_words cells) is) q)) [
        | inl e ↦
            let twice : is_listed (map (λ j. j.name) is) i.name ≡ true = ap (is_listed (map (λ j. j.name) is)) (sym own) ∙ (word_among is q e).0 in
            absurd (false≢true (sym (ap not twice) ∙ once))
        | inr e ↦ e
      ]

  plain : (ps : List Port) (q : List ℕ) → list_all (λ p. not (has_colon p.name)) ps ≡ true → is_listed (map (λ port. port.name) ps) q ≡ true → has_colon q ≡ false
  plain [] q f h = absurd (false≢true h)
  plain (p ∷ ps) q f h =
      let parts = and_parts (not (has_colon p.name)) (list_all (λ r. not (has_colon r.name)) ps) f in
      elim (cases_Bool (bytes_eq q p.name)) [
        | inl g ↦ ap has_colon (same_is q p.name g) ∙ not-true (has_colon p.name) parts.0
        | inr g ↦
            let rest : is_listed (map (λ port. port.name) ps) q ≡ true = rw g at h in
            plain ps q parts.1 rest
      ]

  -- the names of all pins are distinct
  words_apart : (ports : List Port) (insts : List Inst) → are_distinct (map (λ p. p.name) ports) ≡ true
      → list_all (λ p. not (has_colon p.name)) ports ≡ true → are_distinct (map (λ i. i.name) insts) ≡ true
      → are_distinct (map (λ p. p.name) ports ++ flat_map (inst_words cells) insts) ≡ true
  words_apart ports insts d free e =
      distinct_parts (map (λ port. port.name) ports) (flat_map (inst_words cells) insts) d (insts_distinct insts e)
      (λ q h. elim (cases_Bool (is_listed (flat_map (inst_words cells) insts) q)) [
        | inl g ↦ absurd (false≢true (sym (plain ports q free h) ∙ (word_among insts q g).1))
        | inr g ↦ g
      ])

  names_in_insts : (insts : List Inst) → map name_of (flat_map (λ i. map (cell_pin i) (cell_pins (cell_named cells i.cell))) insts) ≡ flat_map (inst_words cells) insts
  names_in_insts [] = refl
  names_in_insts (i ∷ is) =
      ap (map name_of) (flat_map-cons (λ j. map (cell_pin j) (cell_pins (cell_named cells j.cell))) i is)
      ∙ map-append name_of (map (cell_pin i) (cell_pins (cell_named cells i.cell))) (flat_map (λ j. map (cell_pin j) (cell_pins (cell_named cells j.cell))) is)
      ∙ ap (λ xs. xs ++ map name_of (flat_map (λ j. map (cell_pin j) (cell_pins (cell_named cells j.cell))) is)) (map-map name_of (cell_pin i) (cell_pins (cell_named cells i.cell)))
      ∙ ap (λ xs. inst_words cells i ++ xs) (names_in_insts is)
      ∙ sym (flat_map-cons (inst_words cells) i is)

and3 : (a b c : Bool) → (a && b && c) ≡ true → (a ≡ true) × (b ≡ true) × (c ≡ true)
and3 true true true h = (refl, refl, refl)
and3 false b c h = absurd (false≢true h)
and3 true false c h = absurd (false≢true h)
and3 true true false h = absurd (false≢true h)

and4 : (a b c d : Bool) → (a && b && c && d) ≡ true → (a ≡ true) × (b ≡ true) × (c ≡ true) × (d ≡ true)
and4 true true true true h = (refl, refl, refl, refl)
and4 false b c d h = absurd (false≢true h)
and4 true false c d h = absurd (false≢true h)
and4 true true false d h = absurd (false≢true h)
and4 true true true false h = absurd (false≢true h)

and5 : (a b c d e : Bool) → (a && b && c && d && e) ≡ true → (b ≡ true) × (c ≡ true) × (d ≡ true) × (e ≡ true)
and5 true true true true e h = (refl, refl, refl, h)
and5 false b c d e h = absurd (false≢true h)
and5 true false c d e h = absurd (false≢true h)
and5 true true false d e h = absurd (false≢true h)
and5 true true true false e h = absurd (false≢true h)

all_left : {X : Type 0} (p q : X → Bool) (xs : List X) → list_all (λ x. p x && q x) xs ≡ true → list_all p xs ≡ true
all_left p q [] h = refl
all_left p q (x ∷ xs) h =
    let parts = and_parts (p x && q x) (list_all (λ y. p y && q y) xs) h in
    and_from (p x) (list_all p xs) (and_parts (p x) (q x) parts.0).0 (all_left p q xs parts.1)

pub each_found : {X : Type 0} (p q : X → Bool) (xs : List X) (x : X) → list_all p xs ≡ true → find q xs ≡ Some x → p x ≡ true
each_found p q [] x h e = absurd (cc)
each_found p q (y ∷ ys) x h e =
    let parts = and_parts (p y) (list_all p ys) h in
    elim (cases_Bool (q y)) [
      | inl g ↦ let f : Some y ≡ Some x = rw g at e in let same : y ≡ x = cc in ap p (sym same) ∙ parts.0
      | inr g ↦ let f : find q ys ≡ Some x = rw g at e in each_found p q ys x parts.1 f
    ]

-- what a library says of each of its cells
module _ (library : Library) (good : is_library library ≡ true) where
  cells_good : list_all is_cell library.cells ≡ true
  cells_good = (and3 (nat_le (length library.cells) 10000) (are_distinct (map (λ cell. cell.name) library.cells)) (list_all is_cell library.cells) good).2

  cell_parts : (cell : Cell) (name : List ℕ) → cell_named library.cells name ≡ Some cell
      → (are_distinct (map (λ p. p.name) cell.pins) ≡ true) × (list_all (λ p. not (has_colon p.name) && is_amount p.cap.0) cell.pins ≡ true)
      × (list_all (is_cell_arc cell) cell.arcs ≡ true) × (list_all (is_cell_test cell) cell.tests ≡ true)
  cell_parts cell name e =
      let is = each_found is_cell (λ c. bytes_eq c.name name) library.cells cell cells_good e in
      and5 (nat_le (length cell.pins) 10000) (are_distinct (map (λ p. p.name) cell.pins))
      (list_all (λ p. not (has_colon p.name) && is_amount p.cap.0) cell.pins) (list_all (is_cell_arc cell) cell.arcs) (list_all (is_cell_test cell) cell.tests) is

  pub caps_good : (cell : Cell) (name : List ℕ) → cell_named library.cells name ≡ Some cell → list_all (λ p. not (has_colon p.name) && is_amount p.cap.0) cell.pins ≡ true
  caps_good cell name e = (cell_parts cell name e).1

  pub arcs_good : (cell : Cell) (name : List ℕ) → cell_named library.cells name ≡ Some cell → list_all (is_cell_arc cell) cell.arcs ≡ true
  arcs_good cell name e = (cell_parts cell name e).2

  pub tests_good : (cell : Cell) (name : List ℕ) → cell_named library.cells name ≡ Some cell → list_all (is_cell_test cell) cell.tests ≡ true
  tests_good cell name e = (cell_parts cell name e).3

  pub pinned : (i : Inst) → IsPinned library.cells i
  pinned i = by (cell_named library.cells i.cell) refl
    where
      by : (o : Option Cell) → cell_named library.cells i.cell ≡ o → IsPinned library.cells i
      by None e = record { apart = rw e refl; free = rw e refl }
      by (Some cell) e =
          let parts = cell_parts cell i.cell e in
          record {
            apart = rw e parts.0;
            free = rw e (all_left (λ (p : CellPin). not (has_colon p.name)) (λ (p : CellPin). is_amount p.cap.0) cell.pins parts.1);
          }

module _ (d : Design) (linked : IsLinked d) where
  names_parts : (are_distinct (map (λ port. port.name) d.ports) ≡ true) × (are_distinct (map (λ i. i.name) d.insts) ≡ true) × (are_distinct d.nets ≡ true)
      × (list_all (λ i. are_distinct (map (λ conn. conn.pin) i.conns)) d.insts ≡ true)
  names_parts =
      and4 (are_distinct (map (λ port. port.name) d.ports)) (are_distinct (map (λ i. i.name) d.insts)) (are_distinct d.nets)
      (list_all (λ i. are_distinct (map (λ conn. conn.pin) i.conns)) d.insts) linked.names

  pub insts_apart : are_distinct (map (λ i. i.name) d.insts) ≡ true
  insts_apart = names_parts.1

  pub nets_apart : are_distinct d.nets ≡ true
  nets_apart = names_parts.2

  pub pins_apart : are_distinct (map name_of (pins d)) ≡ true
  pins_apart =
      ap are_distinct
      (map-append name_of (map port_pin d.ports) (flat_map (λ i. map (cell_pin i) (cell_pins (cell_named d.late.cells i.cell))) d.insts)
      ∙ ap (λ xs. xs ++ map name_of (flat_map (λ i. map (cell_pin i) (cell_pins (cell_named d.late.cells i.cell))) d.insts)) (map-map name_of port_pin d.ports)
      ∙ ap (λ xs. map (λ port. port.name) d.ports ++ xs) (names_in_insts d.late.cells (pinned d.late linked.late) d.insts))
      ∙ words_apart d.late.cells (pinned d.late linked.late) d.ports d.insts names_parts.0 linked.ports names_parts.1

  pub inst_pins_apart : (i : Inst) → are_distinct (map name_of (inst_pins d i)) ≡ true
  inst_pins_apart i =
      ap are_distinct (map-map name_of (cell_pin i) (cell_pins (cell_named d.late.cells i.cell)))
      ∙ words_distinct i (cell_pins (cell_named d.late.cells i.cell)) (pinned d.late linked.late i).apart
