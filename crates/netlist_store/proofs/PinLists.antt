-- The pins of a linked design: what is told of each, that they are joined, and that their names are distinct.

use Rattle.std.proofs.Common.{◌≡◌, ◌⊎◌, ℕ, zero, suc, Bool, true, false, not, List, [], ◌∷◌, ◌++◌, map, length, Some, refl, sym, ap, ◌∙◌, inl, inr}
use Rattle.std.specs.Prelude.{find, nat_eq, ◌&&◌, ◌||◌}
use Rattle.std.specs.List.{slice_get, list_all, flat_map}
use Rattle.std.specs.Option.{option_map_or}
use Rattle.std.specs.Str.{bytes_eq}
use Rattle.std.proofs.lemmas.Bool.{cases_Bool, false≢true}
use Rattle.std.proofs.lemmas.List.{map-append, length-map}
use Rattle.std.proofs.lemmas.List.Concat.{flat_map-cons}
use Rattle.std.proofs.lemmas.List.Folds.{list_all-append}
use Rattle.std.proofs.lemmas.Simd.{map-map}
use Rattle.timing_defs.specs.declared.library.Cell.{Cell}
use Rattle.timing_defs.specs.declared.library.CellPin.{CellPin}
use Rattle.timing_defs.specs.declared.netlist.Port.{Port}
use Rattle.timing_defs.specs.declared.netlist.Inst.{Inst}
use Rattle.timing_defs.specs.declared.netlist.Conn.{Conn}
use Rattle.timing_defs.specs.Netlist.{Pin, name_of, port_pin, cell_pin, cell_pins, cell_named, conn_net, net_of, is_listed, are_distinct}
use Rattle.timing_defs.specs.Edits.{has_colon, before_last}
use Rattle.netlist_store.specs.Building.{of_inst_pins, of_pins}
use Rattle.netlist_store.proofs.ShardLaws.{same_is, same_self}

pub and_left : (a b : Bool) → (a && b) ≡ true → a ≡ true
and_left true b h = refl
and_left false b h = h

pub and_right : (a b : Bool) → (a && b) ≡ true → b ≡ true
and_right true b h = h
and_right false b h = cc

pub and_both : (a b : Bool) → a ≡ true → b ≡ true → (a && b) ≡ true
and_both a b p q = rw (p, q) refl

-- the pins of instances of these cells
abbrev pub pins_of_inst : List Cell → Inst → List Pin
pins_of_inst cells inst = map (cell_pin inst) (cell_pins (cell_named cells inst.cell))

abbrev pub pins_of : List Port → List Cell → List Inst → List Pin
pins_of ports cells insts = map port_pin ports ++ flat_map (pins_of_inst cells) insts

-- what is told of all pins
module _ {X : Type 0} (f : Pin → X) (cells : List Cell) where
  of_insts : (insts : List Inst) → flat_map (of_inst_pins f cells) insts ≡ map f (flat_map (pins_of_inst cells) insts)
  of_insts [] = refl
  of_insts (i ∷ is) =
      flat_map-cons (of_inst_pins f cells) i is
      ∙ ap (λ xs. of_inst_pins f cells i ++ xs) (of_insts is)
      ∙ ap (λ xs. xs ++ map f (flat_map (pins_of_inst cells) is)) (sym (map-map f (cell_pin i) (cell_pins (cell_named cells i.cell))))
      ∙ sym (map-append f (pins_of_inst cells i) (flat_map (pins_of_inst cells) is))
      ∙ ap (map f) (sym (flat_map-cons (pins_of_inst cells) i is))

  pub of_pins_is : (ports : List Port) (insts : List Inst) → of_pins f ports cells insts ≡ map f (pins_of ports cells insts)
  of_pins_is ports insts =
      ap (λ xs. xs ++ flat_map (of_inst_pins f cells) insts) (sym (map-map f port_pin ports))
      ∙ ap (λ xs. map f (map port_pin ports) ++ xs) (of_insts insts)
      ∙ sym (map-append f (map port_pin ports) (flat_map (pins_of_inst cells) insts))

pub as_many : {X Y : Type 0} (f : Pin → X) (g : Pin → Y) (ports : List Port) (cells : List Cell) (insts : List Inst)
    → length (of_pins f ports cells insts) ≡ length (of_pins g ports cells insts)
as_many f g ports cells insts =
    ap length (of_pins_is f cells ports insts) ∙ length-map (pins_of ports cells insts) f
    ∙ sym (ap length (of_pins_is g cells ports insts) ∙ length-map (pins_of ports cells insts) g)

pub each_at : {X : Type 0} (p : X → Bool) (xs : List X) (n : ℕ) (x : X) → list_all p xs ≡ true → slice_get xs n ≡ Some x → p x ≡ true
each_at p [] n x h e = absurd (cc)
each_at p (y ∷ ys) zero x h e = ap p (sym (inner e)) ∙ and_left (p y) (list_all p ys) h
  where
    inner : Some y ≡ Some x → y ≡ x
    inner f = cc
each_at p (y ∷ ys) (suc n) x h e = each_at p ys n x (and_right (p y) (list_all p ys) h) e

pub each_found : {X : Type 0} (p q : X → Bool) (xs : List X) (x : X) → list_all p xs ≡ true → find q xs ≡ Some x → p x ≡ true
each_found p q [] x h e = absurd (cc)
each_found p q (y ∷ ys) x h e = elim (cases_Bool (q y)) [
  | inl g ↦ let same : y ≡ x = (let f : Some y ≡ Some x = rw g at e in inner f) in ap p (sym same) ∙ and_left (p y) (list_all p ys) h
  | inr g ↦ let f : find q ys ≡ Some x = rw g at e in each_found p q ys x (and_right (p y) (list_all p ys) h) f
]
  where
    inner : Some y ≡ Some x → y ≡ x
    inner f = cc

-- a pin's instance and its net are in the design
abbrev pub is_joined : List (List ℕ) → List (List ℕ) → Pin → Bool
is_joined insts nets pin =
    option_map_or (λ i. is_listed insts i.name) pin.owner true && option_map_or (is_listed nets) (net_of pin) true

module _ (names nets : List (List ℕ)) (cells : List Cell) where
  conn_joined : (conns : List Conn) → list_all (λ conn. option_map_or (is_listed nets) conn.net true) conns ≡ true
      → (own : List ℕ) → option_map_or (is_listed nets) (conn_net conns own) true ≡ true
  conn_joined [] h own = refl
  conn_joined (c ∷ cs) h own = elim (cases_Bool (bytes_eq c.pin own)) [
    | inl e ↦ rw e (and_left (option_map_or (is_listed nets) c.net true) (list_all (λ conn. option_map_or (is_listed nets) conn.net true) cs) h)
    | inr e ↦ rw e (conn_joined cs (and_right (option_map_or (is_listed nets) c.net true) (list_all (λ conn. option_map_or (is_listed nets) conn.net true) cs) h) own)
  ]

  ports_joined : (ports : List Port) → list_all (λ port. is_listed nets port.name) ports ≡ true → list_all (is_joined names nets) (map port_pin ports) ≡ true
  ports_joined [] h = refl
  ports_joined (p ∷ ps) h =
      and_both (is_joined names nets (port_pin p)) (list_all (is_joined names nets) (map port_pin ps))
      (and_left (is_listed nets p.name) (list_all (λ port. is_listed nets port.name) ps) h)
      (ports_joined ps (and_right (is_listed nets p.name) (list_all (λ port. is_listed nets port.name) ps) h))

  cell_joined : (i : Inst) → is_listed names i.name ≡ true → list_all (λ conn. option_map_or (is_listed nets) conn.net true) i.conns ≡ true
      → (ps : List CellPin) → list_all (is_joined names nets) (map (cell_pin i) ps) ≡ true
  cell_joined i here joins [] = refl
  cell_joined i here joins (p ∷ ps) =
      and_both (is_joined names nets (cell_pin i p)) (list_all (is_joined names nets) (map (cell_pin i) ps))
      (and_both (is_listed names i.name) (option_map_or (is_listed nets) (conn_net i.conns p.name) true) here (conn_joined i.conns joins p.name))
      (cell_joined i here joins ps)

  insts_joined : (insts : List Inst) → list_all (λ i. is_listed names i.name) insts ≡ true
      → list_all (λ i. list_all (λ conn. option_map_or (is_listed nets) conn.net true) i.conns) insts ≡ true
      → list_all (is_joined names nets) (flat_map (pins_of_inst cells) insts) ≡ true
  insts_joined [] h g = refl
  insts_joined (i ∷ is) h g =
      ap (list_all (is_joined names nets)) (flat_map-cons (pins_of_inst cells) i is)
      ∙ list_all-append (is_joined names nets) (pins_of_inst cells i) (flat_map (pins_of_inst cells) is)
      ∙ and_both (list_all (is_joined names nets) (pins_of_inst cells i)) (list_all (is_joined names nets) (flat_map (pins_of_inst cells) is))
      (cell_joined i (and_left (is_listed names i.name) (list_all (λ j. is_listed names j.name) is) h)
      (and_left (list_all (λ conn. option_map_or (is_listed nets) conn.net true) i.conns) (list_all (λ j. list_all (λ conn. option_map_or (is_listed nets) conn.net true) j.conns) is) g)
      (cell_pins (cell_named cells i.cell)))
      (insts_joined is (and_right (is_listed names i.name) (list_all (λ j. is_listed names j.name) is) h)
      (and_right (list_all (λ conn. option_map_or (is_listed nets) conn.net true) i.conns) (list_all (λ j. list_all (λ conn. option_map_or (is_listed nets) conn.net true) j.conns) is) g))

each_listed : (all : List (List ℕ)) (insts : List Inst) → ((q : List ℕ) → is_listed (map (λ i. i.name) insts) q ≡ true → is_listed all q ≡ true)
    → list_all (λ i. is_listed all i.name) insts ≡ true
each_listed all [] sub = refl
each_listed all (i ∷ is) sub =
    and_both (is_listed all i.name) (list_all (λ j. is_listed all j.name) is)
    (sub i.name (rw (same_self i.name) refl))
    (each_listed all is (λ q h. sub q (later (bytes_eq q i.name) (is_listed (map (λ j. j.name) is) q) h)))
  where
    later : (a b : Bool) → b ≡ true → (a || b) ≡ true
    later true b h = refl
    later false b h = h

pub all_joined : (ports : List Port) (nets : List (List ℕ)) (cells : List Cell) (insts : List Inst)
    → list_all (λ port. is_listed nets port.name) ports ≡ true
    → list_all (λ i. list_all (λ conn. option_map_or (is_listed nets) conn.net true) i.conns) insts ≡ true
    → list_all (is_joined (map (λ i. i.name) insts) nets) (pins_of ports cells insts) ≡ true
all_joined ports nets cells insts h g =
    list_all-append (is_joined (map (λ i. i.name) insts) nets) (map port_pin ports) (flat_map (pins_of_inst cells) insts)
    ∙ and_both (list_all (is_joined (map (λ i. i.name) insts) nets) (map port_pin ports))
    (list_all (is_joined (map (λ i. i.name) insts) nets) (flat_map (pins_of_inst cells) insts))
    (ports_joined (map (λ i. i.name) insts) nets cells ports h)
    (insts_joined (map (λ i. i.name) insts) nets cells insts (each_listed (map (λ i. i.name) insts) insts (λ q e. e)) g)

-- names in a list of two parts
listed_parts : (xs ys : List (List ℕ)) (q : List ℕ) → is_listed (xs ++ ys) q ≡ (is_listed xs q || is_listed ys q)
listed_parts [] ys q = refl
listed_parts (x ∷ xs) ys q = elim (cases_Bool (bytes_eq q x)) [ inl h ↦ rw h refl | inr h ↦ rw h (listed_parts xs ys q) ]

distinct_parts : (xs ys : List (List ℕ)) → are_distinct xs ≡ true → are_distinct ys ≡ true
    → ((q : List ℕ) → is_listed xs q ≡ true → is_listed ys q ≡ false) → are_distinct (xs ++ ys) ≡ true
distinct_parts [] ys d e apart = e
distinct_parts (x ∷ xs) ys d e apart =
    let lone : is_listed (xs ++ ys) x ≡ false =
    listed_parts xs ys x
    ∙ neither (is_listed xs x) (is_listed ys x) (unnot (is_listed xs x) (and_left (not (is_listed xs x)) (are_distinct xs) d)) (apart x (rw (same_self x) refl)) in
    and_both (not (is_listed (xs ++ ys) x)) (are_distinct (xs ++ ys)) (ap not lone)
    (distinct_parts xs ys (and_right (not (is_listed xs x)) (are_distinct xs) d) e (λ q h. apart q (later (bytes_eq q x) (is_listed xs q) h)))
  where
    neither : (a b : Bool) → a ≡ false → b ≡ false → (a || b) ≡ false
    neither a b p q = rw (p, q) refl

    unnot : (a : Bool) → not a ≡ true → a ≡ false
    unnot true h = absurd (false≢true h)
    unnot false h = refl

    later : (a b : Bool) → b ≡ true → (a || b) ≡ true
    later true b h = refl
    later false b h = h

-- the instance of a pin's name is what stands before its last colon
colon_in : (a p : List ℕ) → has_colon (a ++ 58 ∷ p) ≡ true
colon_in [] p = refl
colon_in (x ∷ a) p = elim (cases_Bool (nat_eq 58 x)) [ inl h ↦ rw h refl | inr h ↦ rw h (colon_in a p) ]

before_colon : (a p : List ℕ) → has_colon p ≡ false → before_last (a ++ 58 ∷ p) ≡ a
before_colon [] p none = rw none refl
before_colon (x ∷ a) p none = rw (colon_in a p) (ap (λ xs. x ∷ xs) (before_colon a p none))

after_same : (a x y : List ℕ) → bytes_eq (a ++ 58 ∷ x) (a ++ 58 ∷ y) ≡ true → x ≡ y
after_same a x y h = strip a (same_is (a ++ 58 ∷ x) (a ++ 58 ∷ y) h)
  where
    strip : (b : List ℕ) → b ++ 58 ∷ x ≡ b ++ 58 ∷ y → x ≡ y
    strip [] e = cc
    strip (z ∷ b) e = strip b (tails e)
      where
        tails : z ∷ (b ++ 58 ∷ x) ≡ z ∷ (b ++ 58 ∷ y) → b ++ 58 ∷ x ≡ b ++ 58 ∷ y
        tails f = cc

-- the names of the pins of one instance
abbrev pin_words : Inst → List CellPin → List (List ℕ)
pin_words i ps = map (λ pin. name_of (cell_pin i pin)) ps

word_of : (i : Inst) (ps : List CellPin) (q : List ℕ) → list_all (λ p. not (has_colon p.name)) ps ≡ true
    → is_listed (pin_words i ps) q ≡ true → (before_last q ≡ i.name) × (has_colon q ≡ true)
word_of i [] q free h = absurd (false≢true h)
word_of i (p ∷ ps) q free h = elim (cases_Bool (bytes_eq q (i.name ++ 58 ∷ p.name))) [
  | inl e ↦
      let same : q ≡ i.name ++ 58 ∷ p.name = same_is q (i.name ++ 58 ∷ p.name) e in (
        ap before_last same ∙ before_colon i.name p.name (unnot (has_colon p.name) (and_left (not (has_colon p.name)) (list_all (λ r. not (has_colon r.name)) ps) free)),
        ap has_colon same ∙ colon_in i.name p.name,
      )
  | inr e ↦
      let rest : is_listed (pin_words i ps) q ≡ true = rw e at h in
      word_of i ps q (and_right (not (has_colon p.name)) (list_all (λ r. not (has_colon r.name)) ps) free) rest
]
  where
    unnot : (a : Bool) → not a ≡ true → a ≡ false
    unnot true g = absurd (false≢true g)
    unnot false g = refl

words_distinct : (i : Inst) (ps : List CellPin) → are_distinct (map (λ p. p.name) ps) ≡ true → are_distinct (pin_words i ps) ≡ true
words_distinct i [] d = refl
words_distinct i (p ∷ ps) d =
    and_both (not (is_listed (pin_words i ps) (i.name ++ 58 ∷ p.name))) (are_distinct (pin_words i ps))
    (lone ps (and_left (not (is_listed (map (λ r. r.name) ps) p.name)) (are_distinct (map (λ r. r.name) ps)) d))
    (words_distinct i ps (and_right (not (is_listed (map (λ r. r.name) ps) p.name)) (are_distinct (map (λ r. r.name) ps)) d))
  where
    lone : (rs : List CellPin) → not (is_listed (map (λ r. r.name) rs) p.name) ≡ true → not (is_listed (pin_words i rs) (i.name ++ 58 ∷ p.name)) ≡ true
    lone [] h = refl
    lone (r ∷ rs) h = elim (cases_Bool (bytes_eq (i.name ++ 58 ∷ p.name) (i.name ++ 58 ∷ r.name))) [
      | inl e ↦
          let same : p.name ≡ r.name = after_same i.name p.name r.name e in
          let g : bytes_eq p.name r.name ≡ true = ap (bytes_eq p.name) (sym same) ∙ same_self p.name in
          let f : not true ≡ true = rw g at h in
          absurd (false≢true f)
      | inr e ↦
          rw e (lone rs (rest (bytes_eq p.name r.name) (is_listed (map (λ s. s.name) rs) p.name) h))
    ]
      where
        rest : (a b : Bool) → not (a || b) ≡ true → not b ≡ true
        rest true b h = absurd (false≢true h)
        rest false b h = h

-- each instance has a cell whose pins have distinct names without a colon
abbrev pub IsPinned : List Cell → Inst → Type 0
IsPinned cells i =
    (are_distinct (map (λ p. p.name) (cell_pins (cell_named cells i.cell))) ≡ true)
    × (list_all (λ p. not (has_colon p.name)) (cell_pins (cell_named cells i.cell)) ≡ true)

module _ (cells : List Cell) (pinned : (i : Inst) → IsPinned cells i) where
  -- a word of several instances' pins names one of them
  word_among : (insts : List Inst) (q : List ℕ) → is_listed (flat_map (of_inst_pins name_of cells) insts) q ≡ true
      → (is_listed (map (λ i. i.name) insts) (before_last q) ≡ true) × (has_colon q ≡ true)
  word_among [] q h = absurd (false≢true h)
  word_among (i ∷ is) q h = by (λ g. word_among is q g) (cases_Bool (is_listed (of_inst_pins name_of cells i) q))
    where
      parts : (is_listed (of_inst_pins name_of cells i) q || is_listed (flat_map (of_inst_pins name_of cells) is) q) ≡ true
      parts =
          sym (ap (λ xs. is_listed xs q) (flat_map-cons (of_inst_pins name_of cells) i is)
          ∙ listed_parts (of_inst_pins name_of cells i) (flat_map (of_inst_pins name_of cells) is) q) ∙ h

      later : (a b : Bool) → b ≡ true → (a || b) ≡ true
      later true b h = refl
      later false b h = h

      by : (is_listed (flat_map (of_inst_pins name_of cells) is) q ≡ true → (is_listed (map (λ j. j.name) is) (before_last q) ≡ true) × (has_colon q ≡ true))
          → (is_listed (of_inst_pins name_of cells i) q ≡ true) ⊎ (is_listed (of_inst_pins name_of cells i) q ≡ false)
          → (is_listed (map (λ j. j.name) (i ∷ is)) (before_last q) ≡ true) × (has_colon q ≡ true)
      by again (inl e) =
          let here = word_of i (cell_pins (cell_named cells i.cell)) q (pinned i).1 e in
          let own : bytes_eq (before_last q) i.name ≡ true = ap (λ n. bytes_eq n i.name) here.0 ∙ same_self i.name in
          (rw own refl, here.1)
      by again (inr e) =
          let rest : is_listed (flat_map (of_inst_pins name_of cells) is) q ≡ true = rw e at parts in
          let found = again rest in
          (later (bytes_eq (before_last q) i.name) (is_listed (map (λ j. j.name) is) (before_last q)) found.0, found.1)

  insts_distinct : (insts : List Inst) → are_distinct (map (λ i. i.name) insts) ≡ true
      → are_distinct (flat_map (of_inst_pins name_of cells) insts) ≡ true
  insts_distinct [] d = refl
  insts_distinct (i ∷ is) d =
      ap are_distinct (flat_map-cons (of_inst_pins name_of cells) i is)
      ∙ distinct_parts (of_inst_pins name_of cells i) (flat_map (of_inst_pins name_of cells) is)
      (words_distinct i (cell_pins (cell_named cells i.cell)) (pinned i).0)
      (insts_distinct is (and_right (not (is_listed (map (λ j. j.name) is) i.name)) (are_distinct (map (λ j. j.name) is)) d))
      (λ q e. apart q (word_of i (cell_pins (cell_named cells i.cell)) q (pinned i).1 e).0)
    where
      apart : (q : List ℕ) → before_last q ≡ i.name → is_listed (flat_map (of_inst_pins name_of cells) is) q ≡ false
      apart q own = elim (cases_Bool (is_listed (flat_map (of_inst_pins name_of cells) is) q)) [
        | inl e ↦
            let twice : is_listed (map (λ j. j.name) is) i.name ≡ true = ap (is_listed (map (λ j. j.name) is)) (sym own) ∙ (word_among is q e).0 in
            absurd (false≢true (sym (ap not twice) ∙ and_left (not (is_listed (map (λ j. j.name) is) i.name)) (are_distinct (map (λ j. j.name) is)) d))
        | inr e ↦ e
      ]

  -- the names of all pins are distinct
  pub pins_distinct : (ports : List Port) (insts : List Inst) → are_distinct (map (λ p. p.name) ports) ≡ true
      → list_all (λ p. not (has_colon p.name)) ports ≡ true → are_distinct (map (λ i. i.name) insts) ≡ true
      → are_distinct (of_pins name_of ports cells insts) ≡ true
  pins_distinct ports insts d free e =
      distinct_parts (map (λ port. name_of (port_pin port)) ports) (flat_map (of_inst_pins name_of cells) insts) d (insts_distinct insts e)
      (λ q h. elim (cases_Bool (is_listed (flat_map (of_inst_pins name_of cells) insts) q)) [
        | inl g ↦ absurd (false≢true (sym (plain ports q free h) ∙ (word_among insts q g).1))
        | inr g ↦ g
      ])
    where
      plain : (ps : List Port) (q : List ℕ) → list_all (λ p. not (has_colon p.name)) ps ≡ true → is_listed (map (λ port. name_of (port_pin port)) ps) q ≡ true → has_colon q ≡ false
      plain [] q f h = absurd (false≢true h)
      plain (p ∷ ps) q f h = elim (cases_Bool (bytes_eq q p.name)) [
        | inl g ↦ ap has_colon (same_is q p.name g) ∙ unnot (has_colon p.name) (and_left (not (has_colon p.name)) (list_all (λ r. not (has_colon r.name)) ps) f)
        | inr g ↦
            let rest : is_listed (map (λ port. name_of (port_pin port)) ps) q ≡ true = rw g at h in
            plain ps q (and_right (not (has_colon p.name)) (list_all (λ r. not (has_colon r.name)) ps) f) rest
      ]
        where
          unnot : (a : Bool) → not a ≡ true → a ≡ false
          unnot true g = absurd (false≢true g)
          unnot false g = refl
