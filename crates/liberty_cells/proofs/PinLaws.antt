-- The pins of a cell that is read: their names, directions and capacitances.
use Rattle.std.proofs.Common.{◌≡◌, ℕ, ◌+◌, ◌≤◌, List, [], ◌∷◌, ◌++◌, Bool, true, false, ◌&&◌, ◌||◌, not, map, length, cond, refl, ap, sym, subst, ◌∙◌, arith, length-append}
use Rattle.std.specs.Prelude.{ℤ, pos, negsuc, int_le, int_lt, nat_lt, nat_le, nat_eq, codes, find, Option, Some, None, option_map, option_and_then}
use Rattle.std.specs.List.{list_any, flat_map, filter}
use Rattle.std.specs.Option.{option_map_or}
use Rattle.std.specs.Str.{bytes_eq}
use Rattle.std.proofs.lemmas.Bool.{cond_both, and_parts, and_from, or_left, or_right, or_parts, le-leb, ltb-false, eqb-false, ne_eqb, not-true, false≢true}
use Rattle.std.proofs.lemmas.Slice.Eq.{bytes_eq-Decides}
use Rattle.std.proofs.lemmas.List.Folds.{list_any-append}
use Rattle.sta_units.specs.Numbers.{is_within}
use Rattle.sta_units.specs.declared.units.Unit.{Unit as Power}
use Rattle.timing_defs.specs.Names.{is_name}
use Rattle.timing_defs.specs.Netlist.{same_dir, is_listed, are_distinct}
use Rattle.timing_defs.specs.Edits.{has_colon as has_colon_in}
use Rattle.timing_defs.specs.Documents.{is_amount}
use Rattle.timing_defs.specs.declared.codes.Code.TheVariants.{LibertyBadToken, LibertyDoubleName, LibertyTooMany}
use Rattle.timing_defs.specs.declared.kinds.Dir.{Dir}
use Rattle.timing_defs.specs.declared.kinds.Dir.TheVariants.{Input, Output}
use Rattle.timing_defs.specs.declared.library.CellPin.{CellPin}
use Rattle.timing_defs.specs.declared.liberty_tree.Lexeme.{Lexeme}
use Rattle.timing_defs.specs.declared.liberty_tree.Tree.{Tree}
use Rattle.sta_text.specs.Names.{stands}
use Rattle.sta_text.specs.declared.faults.Wrong.{Wrong}
use Rattle.sta_text.proofs.NamesLemmas.{stands_push}
use Rattle.sta_text.proofs.DistinctLemmas.{Lone, lone_distinct, lone_less, stands_still}
use Rattle.liberty_cells.specs.declared.attributes.Check.TheVariants.{Capacitance}
use Rattle.liberty_cells.specs.Statements.{values, last, one_text, text_of}
use Rattle.liberty_cells.specs.Units.{is_number, number_or_zero, is_cap}
use Rattle.liberty_cells.specs.Cells.{Pin, is_colon, has_colon, pins_of, is_inout_text, is_left_out_pin, has_group, is_kept, pin_with, pin_in, dir_of, read_pins, texts_of, with_name, names_on, pin_args, pin_names, names_in, cap_in, cap_of_pin, cell_pin, cell_pins}
use Rattle.liberty_cells.specs.Faults.{at, value_faults, doubles, too_many, load_of_pin_faults, pin_tree}
use Rattle.liberty_cells.proofs.EachLaws.{Each, each_append, each_flat, each_map, each_kept, each_none, each_last, IfLast, filter_append, map_append, fewer, same_length}
use Rattle.liberty_cells.proofs.FormLaws.{number_within}

same_name : (name : List ℕ) → bytes_eq name name ≡ true
same_name name = (bytes_eq-Decides name name).1 refl

equal : (a b : List ℕ) → bytes_eq a b ≡ true → a ≡ b
equal a b h = (bytes_eq-Decides a b).0 h

-- distinct names

-- names without a double stand once
pub doubles_lone : (earlier : List (List ℕ)) (xs : List Lexeme) → doubles earlier xs ≡ [] → Lone earlier (texts_of xs)
unfolding doubles
doubles_lone earlier [] h = tt
doubles_lone earlier (x ∷ xs) h = at_name (stands earlier x.text) refl h (λ g. doubles_lone (earlier ++ x.text ∷ []) xs g)
  where
    at_name : (b : Bool) → stands earlier x.text ≡ b → cond b (at LibertyDoubleName x ++ doubles earlier xs) (doubles (earlier ++ x.text ∷ []) xs) ≡ [] → (doubles (earlier ++ x.text ∷ []) xs ≡ [] → Lone (earlier ++ x.text ∷ []) (texts_of xs)) → (stands earlier x.text ≡ false) × Lone (earlier ++ x.text ∷ []) (texts_of xs)
    at_name true e g rest = absurd (cc)
    at_name false e g rest = (e, rest g)

pub lone_filter : (test : List ℕ → Bool) (before names : List (List ℕ)) → Lone before names → Lone before (filter test names)
lone_filter test before [] h = tt
lone_filter test before (n ∷ ns) h =
    let rest = lone_filter test (before ++ n ∷ []) ns h.1 in
    cond_both (test n) (n ∷ filter test ns) (filter test ns) (Lone before) (λ _. (h.0, rest))
    (λ _. lone_less before (before ++ n ∷ []) (filter test ns) (stands_still before n) rest)

names_same : (dir : Dir) (cap : ℤ) (ns : List (List ℕ)) → map (λ p. p.name) (map (cell_pin dir cap) ns) ≡ ns
names_same dir cap [] = refl
names_same dir cap (n ∷ ns) = ap (λ rest. n ∷ rest) (names_same dir cap ns)

-- the names of a cell's pins
pub names_of : (u : Option Power) (pins : List Pin) → map (λ p. p.name) (flat_map (cell_pins u) pins) ≡ names_in (texts_of (pin_args pins))
names_of u [] = refl
names_of u (p ∷ pins) =
    map_append (λ p. p.name) (cell_pins u p) (flat_map (cell_pins u) pins)
    ∙ (ap (λ xs. xs ++ map (λ p. p.name) (flat_map (cell_pins u) pins)) (names_same p.dir (cap_of_pin u p.tree) (names_in (texts_of p.tree.args)))
    ∙ (ap (λ xs. names_in (texts_of p.tree.args) ++ xs) (names_of u pins)
    ∙ (sym (filter_append is_name (texts_of p.tree.args) (texts_of (pin_args pins)))
    ∙ ap names_in (sym (map_append (λ (x : Lexeme). x.text) p.tree.args (pin_args pins))))))

pub pins_distinct : (u : Option Power) (pins : List Pin) → doubles [] (pin_args pins) ≡ [] → are_distinct (map (λ p. p.name) (flat_map (cell_pins u) pins)) ≡ true
pins_distinct u pins h =
    ap are_distinct (names_of u pins)
    ∙ lone_distinct [] (names_in (texts_of (pin_args pins))) (lone_filter is_name [] (texts_of (pin_args pins)) (doubles_lone [] (pin_args pins) h))

-- at most so many pins

few : (limit seen : ℕ) (pins : List Pin) → too_many limit seen (map pin_tree pins) ≡ [] → seen ≤ limit → seen + length (pin_args pins) ≤ limit
unfolding too_many
few limit seen [] h below = omega (arith, below)
few limit seen (p ∷ pins) h below = at_pin (nat_lt limit (seen + length p.tree.args)) refl h (λ g fits. few limit (seen + length p.tree.args) pins g fits)
  where
    sum : seen + length p.tree.args + length (pin_args pins) ≤ limit → seen + length (p.tree.args ++ pin_args pins) ≤ limit
    sum h = let e = length-append p.tree.args (pin_args pins) in omega (arith, e, h)

    at_pin : (b : Bool) → nat_lt limit (seen + length p.tree.args) ≡ b → cond b (at LibertyTooMany p.tree.word) (too_many limit (seen + length p.tree.args) (map pin_tree pins)) ≡ [] → (too_many limit (seen + length p.tree.args) (map pin_tree pins) ≡ [] → seen + length p.tree.args ≤ limit → seen + length p.tree.args + length (pin_args pins) ≤ limit) → seen + length (p.tree.args ++ pin_args pins) ≤ limit
    at_pin true e g rest = absurd (cc)
    at_pin false e g rest = sum (rest g (ltb-false limit (seen + length p.tree.args) e))

pub pins_few : (u : Option Power) (pins : List Pin) → too_many 10000 0 (map pin_tree pins) ≡ [] → nat_le (length (flat_map (cell_pins u) pins)) 10000 ≡ true
pins_few u pins h =
    let args = few 10000 0 pins h (omega arith) in
    let named = fewer is_name (texts_of (pin_args pins)) in
    let texts = same_length (λ (x : Lexeme). x.text) (pin_args pins) in
    let pins_named = same_length (λ p. p.name) (flat_map (cell_pins u) pins) in
    let names = ap length (names_of u pins) in
    le-leb (length (flat_map (cell_pins u) pins)) 10000 (omega (arith, args, named, texts, pins_named, names))

-- names without a colon

third : (a b c : Bool) → not (a || b || c) ≡ true → c ≡ false
third true b c h = absurd (false≢true h)
third false true c h = absurd (false≢true h)
third false false true h = absurd (false≢true h)
third false false false h = refl

each_out : {X : Type 0} (test : X → Bool) (xs : List X) → list_any test xs ≡ false → Each (λ x. test x ≡ false) xs
each_out test [] h = tt
each_out test (x ∷ xs) h = let both = or_parts (test x) (list_any test xs) h in (both.0, each_out test xs both.1)

colon : (b : ℕ) → is_colon b ≡ false → nat_eq 58 b ≡ false
colon b h = ne_eqb 58 b (λ e. eqb-false b 58 h (sym e))

no_colon : (text : List ℕ) → list_any is_colon text ≡ false → has_colon_in text ≡ false
no_colon [] h = refl
no_colon (b ∷ bs) h =
    let both = or_parts (is_colon b) (list_any is_colon bs) h in
    rw (colon b both.0) (no_colon bs both.1)

-- the names of a pin have no colon
abbrev pub IsPlain : Tree → Type 0
IsPlain pin = Each (λ name. not (has_colon_in name) ≡ true) (names_in (texts_of pin.args))

left_in : (pin : Tree) → is_left_out_pin pin ≡ false → IsPlain pin
left_in pin h =
    let none = (or_parts (is_inout_text (text_of (codes "direction") pin.items)) (list_any has_colon pin.args) h).1 in
    each_kept (λ name. not (has_colon_in name) ≡ true) is_name (texts_of pin.args)
    (each_map (λ x. has_colon x ≡ false) (λ name. not (has_colon_in name) ≡ true) (λ (x : Lexeme). x.text)
    (λ x e. ap not (no_colon x.text e)) pin.args (each_out has_colon pin.args none))

pin_plain : (tree : Tree) (dir : Option Dir) → IsPlain tree → Each (λ pin. IsPlain pin.tree) (pin_with tree dir)
pin_plain tree None h = tt
pin_plain tree (Some dir) h = (h, tt)

pub pins_plain : (cell : Tree) → is_kept cell ≡ true → Each (λ pin. IsPlain pin.tree) (read_pins cell)
pins_plain cell h =
    each_flat (λ tree. is_left_out_pin tree ≡ false) (λ pin. IsPlain pin.tree) pin_in
    (λ tree e. pin_plain tree (dir_of tree) (left_in tree e)) (pins_of cell)
    (each_out is_left_out_pin (pins_of cell)
    (third (has_group (codes "bus") cell) (has_group (codes "bundle") cell) (list_any is_left_out_pin (pins_of cell)) h))

-- capacitances

not_less : (z : ℤ) → not (int_lt z (pos 0)) ≡ true → int_le (pos 0) z ≡ true
not_less (pos n) h = le-leb 0 n (omega arith)
not_less (negsuc n) h = absurd (false≢true h)

amount : (u : Option Power) (text : List ℕ) → is_cap u text ≡ true → is_amount (number_or_zero u text) ≡ true
amount u text h =
    and_from (int_le (pos 0) (number_or_zero u text)) (is_within (number_or_zero u text))
    (not_less (number_or_zero u text) (and_parts (is_number u text) (not (int_lt (number_or_zero u text) (pos 0))) h).1) (number_within u text)

passed : (b : Bool) (w : Wrong) → cond (not b) (w ∷ []) [] ≡ [] → b ≡ true
passed true w h = refl
passed false w h = absurd (cc)

value_amount : (u : Option Power) (value : Option (List Lexeme)) → IfLast (λ v. value_faults LibertyBadToken (Capacitance u) v ≡ []) value → is_amount (cap_in u (option_and_then one_text value)) ≡ true
unfolding cap_in
value_amount u None h = refl
value_amount u (Some []) h = refl
value_amount u (Some (x ∷ [])) h = amount u x.text (passed (is_cap u x.text) (record { code = LibertyBadToken; at = x.offset }) h)
value_amount u (Some (x ∷ y ∷ xs)) h = refl

pub pin_amount : (u : Option Power) (pin : Tree) → load_of_pin_faults u pin.items ≡ [] → is_amount (cap_of_pin u pin) ≡ true
unfolding load_of_pin_faults
pin_amount u pin h =
    let found = values (codes "capacitance") pin.items in
    value_amount u (last found)
    (each_last (λ v. value_faults LibertyBadToken (Capacitance u) v ≡ []) found (each_none (value_faults LibertyBadToken (Capacitance u)) found h))

-- pins of their forms
pub pins_formed : (u : Option Power) (pins : List Pin) → Each (λ pin. IsPlain pin.tree) pins → Each (λ pin. is_amount (cap_of_pin u pin.tree) ≡ true) pins → Each (λ p. (not (has_colon_in p.name) && is_amount p.cap.0) ≡ true) (flat_map (cell_pins u) pins)
pins_formed u [] h k = tt
pins_formed u (p ∷ pins) h k =
    each_append (λ p. (not (has_colon_in p.name) && is_amount p.cap.0) ≡ true) (cell_pins u p) (flat_map (cell_pins u) pins)
    (each_map (λ name. not (has_colon_in name) ≡ true) (λ p. (not (has_colon_in p.name) && is_amount p.cap.0) ≡ true) (cell_pin p.dir (cap_of_pin u p.tree))
    (λ name e. and_from (not (has_colon_in name)) (is_amount (cap_of_pin u p.tree)) e k.0) (names_in (texts_of p.tree.args)) h.0)
    (pins_formed u pins h.1 k.1)

-- directions

abbrev pub fits : Dir → List ℕ → CellPin → Bool
fits dir name p = bytes_eq p.name name && same_dir dir p.dir

own_dir : (dir : Dir) → same_dir dir dir ≡ true
own_dir Input = refl
own_dir Output = refl

own_names : (dir : Dir) (cap : ℤ) (ns : List (List ℕ)) (all : List CellPin) → ((n : List ℕ) → list_any (fits dir n) (map (cell_pin dir cap) ns) ≡ true → list_any (fits dir n) all ≡ true) → Each (λ n. list_any (fits dir n) all ≡ true) ns
own_names dir cap [] all f = tt
own_names dir cap (n ∷ ns) all f = (
  f n (or_left (fits dir n (cell_pin dir cap n)) (list_any (fits dir n) (map (cell_pin dir cap) ns)) (and_from (bytes_eq n n) (same_dir dir dir) (same_name n) (own_dir dir))),
  own_names dir cap ns all (λ m h. f m (or_right (fits dir m (cell_pin dir cap n)) (list_any (fits dir m) (map (cell_pin dir cap) ns)) h)),
)

-- each name of the pin is a pin of the cell with its direction
abbrev pub IsOwn : List CellPin → Pin → Type 0
IsOwn all pin = Each (λ n. list_any (fits pin.dir n) all ≡ true) (names_in (texts_of pin.tree.args))

pub pins_own : (u : Option Power) (all : List CellPin) (pins : List Pin) → ((dir : Dir) (n : List ℕ) → list_any (fits dir n) (flat_map (cell_pins u) pins) ≡ true → list_any (fits dir n) all ≡ true) → Each (IsOwn all) pins
pins_own u all [] f = tt
pins_own u all (p ∷ pins) f = (
  own_names p.dir (cap_of_pin u p.tree) (names_in (texts_of p.tree.args)) all
      (λ n h. f p.dir n (list_any-append (fits p.dir n) (cell_pins u p) (flat_map (cell_pins u) pins) ∙ or_left (list_any (fits p.dir n) (cell_pins u p)) (list_any (fits p.dir n) (flat_map (cell_pins u) pins)) h)),
  pins_own u all pins
      (λ dir n h. f dir n (list_any-append (fits dir n) (cell_pins u p) (flat_map (cell_pins u) pins) ∙ or_right (list_any (fits dir n) (cell_pins u p)) (list_any (fits dir n) (flat_map (cell_pins u) pins)) h)),
)

listed : (dir : Dir) (name : List ℕ) (ps : List CellPin) (q : List ℕ) → q ≡ name → list_any (fits dir name) ps ≡ true → is_listed (map (λ p. p.name) ps) q ≡ true
listed dir name [] q same h = absurd (false≢true h)
listed dir name (p ∷ ps) q same h = by_cases (bytes_eq p.name name) refl h (λ g. listed dir name ps q same g)
  where
    by_cases : (b : Bool) → bytes_eq p.name name ≡ b → ((b && same_dir dir p.dir) || list_any (fits dir name) ps) ≡ true → (list_any (fits dir name) ps ≡ true → is_listed (map (λ p. p.name) ps) q ≡ true) → (bytes_eq q p.name || is_listed (map (λ p. p.name) ps) q) ≡ true
    by_cases true e g rest =
        or_left (bytes_eq q p.name) (is_listed (map (λ p. p.name) ps) q) ((bytes_eq-Decides q p.name).1 (same ∙ sym (equal p.name name e)))
    by_cases false e g rest = or_right (bytes_eq q p.name) (is_listed (map (λ p. p.name) ps) q) (rest g)

-- where names are distinct, the first pin of a name has its direction
pub dir_found : (dir : Dir) (name : List ℕ) (ps : List CellPin) → are_distinct (map (λ p. p.name) ps) ≡ true → list_any (fits dir name) ps ≡ true → option_map_or (same_dir dir) (option_map (λ p. p.dir) (find (λ p. bytes_eq p.name name) ps)) false ≡ true
dir_found dir name [] h k = absurd (false≢true k)
dir_found dir name (p ∷ ps) h k =
    let both = and_parts (not (is_listed (map (λ p. p.name) ps) p.name)) (are_distinct (map (λ p. p.name) ps)) h in
    by_cases (bytes_eq p.name name) refl k both.0 (λ g. dir_found dir name ps both.1 g)
  where
    by_dir : (d : Bool) → (d || list_any (fits dir name) ps) ≡ true → (list_any (fits dir name) ps ≡ true → ⊥) → d ≡ true
    by_dir true g none = refl
    by_dir false g none = absurd (none g)

    by_cases : (b : Bool) → bytes_eq p.name name ≡ b → ((b && same_dir dir p.dir) || list_any (fits dir name) ps) ≡ true → not (is_listed (map (λ p. p.name) ps) p.name) ≡ true → (list_any (fits dir name) ps ≡ true → option_map_or (same_dir dir) (option_map (λ p. p.dir) (find (λ p. bytes_eq p.name name) ps)) false ≡ true) → option_map_or (same_dir dir) (option_map (λ p. p.dir) (cond b (Some p) (find (λ p. bytes_eq p.name name) ps))) false ≡ true
    by_cases true e g alone rest =
        by_dir (same_dir dir p.dir) g
        (λ twice. false≢true (sym (not-true (is_listed (map (λ p. p.name) ps) p.name) alone) ∙ listed dir name ps p.name (equal p.name name e) twice))
    by_cases false e g alone rest = rest g

-- names of pins

move_left : (a b r : Bool) → (a || r) ≡ true → (a || (b || r)) ≡ true
move_left true b r h = refl
move_left false true r h = refl
move_left false false r h = h

move_right : (a b r : Bool) → ((b || a) || r) ≡ true → (a || (b || r)) ≡ true
move_right true b r h = refl
move_right false true r h = refl
move_right false false r h = h

on_names : (before : List (List ℕ)) (xs : List Lexeme) (q : List ℕ) → stands (names_on before xs) q ≡ true → (stands before q || stands (texts_of xs) q) ≡ true
unfolding names_on
on_names before [] q h = or_left (stands before q) false h
on_names before (x ∷ xs) q h =
    cond_both (stands before x.text) before (before ++ x.text ∷ [])
    (λ names. (stands names q || stands (texts_of xs) q) ≡ true → (stands before q || (bytes_eq q x.text || stands (texts_of xs) q)) ≡ true)
    (λ _. move_left (stands before q) (bytes_eq q x.text) (stands (texts_of xs) q))
    (λ _ g. move_right (stands before q) (bytes_eq q x.text) (stands (texts_of xs) q) (ap (λ b. b || stands (texts_of xs) q) (sym (stands_push before x.text q)) ∙ g))
    (on_names (with_name before x.text) xs q h)

kept_name : (test : List ℕ → Bool) (names : List (List ℕ)) (q : List ℕ) → test q ≡ true → stands names q ≡ true → stands (filter test names) q ≡ true
kept_name test [] q h k = k
kept_name test (n ∷ ns) q h k = by_cases (bytes_eq q n) refl k (λ g. kept_name test ns q h g)
  where
    by_cases : (b : Bool) → bytes_eq q n ≡ b → (b || stands ns q) ≡ true → (stands ns q ≡ true → stands (filter test ns) q ≡ true) → stands (cond (test n) (n ∷ filter test ns) (filter test ns)) q ≡ true
    by_cases true e g rest =
        let holds : test n ≡ true = ap test (sym (equal q n e)) ∙ h in
        subst (λ b. stands (cond b (n ∷ filter test ns) (filter test ns)) q ≡ true) (sym holds)
        (or_left (bytes_eq q n) (stands (filter test ns) q) e)
    by_cases false e g rest =
        cond_both (test n) (n ∷ filter test ns) (filter test ns) (λ ys. stands ys q ≡ true)
        (λ _. or_right (bytes_eq q n) (stands (filter test ns) q) (rest g)) (λ _. rest g)

pin_called : (ps : List CellPin) (q : List ℕ) → stands (map (λ p. p.name) ps) q ≡ true → list_any (λ p. bytes_eq p.name q) ps ≡ true
pin_called [] q h = h
pin_called (p ∷ ps) q h = by_cases (bytes_eq q p.name) refl h (λ g. pin_called ps q g)
  where
    by_cases : (b : Bool) → bytes_eq q p.name ≡ b → (b || stands (map (λ p. p.name) ps) q) ≡ true → (stands (map (λ p. p.name) ps) q ≡ true → list_any (λ p. bytes_eq p.name q) ps ≡ true) → (bytes_eq p.name q || list_any (λ p. bytes_eq p.name q) ps) ≡ true
    by_cases true e g rest =
        or_left (bytes_eq p.name q) (list_any (λ p. bytes_eq p.name q) ps) ((bytes_eq-Decides p.name q).1 (sym (equal q p.name e)))
    by_cases false e g rest = or_right (bytes_eq p.name q) (list_any (λ p. bytes_eq p.name q) ps) (rest g)

-- a name that stands among the names of a cell's pins is one of its pins
pub pin_reached : (u : Option Power) (pins : List Pin) (q : List ℕ) → is_name q ≡ true → stands (pin_names pins) q ≡ true → list_any (λ p. bytes_eq p.name q) (flat_map (cell_pins u) pins) ≡ true
pin_reached u pins q named h =
    pin_called (flat_map (cell_pins u) pins) q
    (ap (λ names. stands names q) (names_of u pins)
    ∙ kept_name is_name (texts_of (pin_args pins)) q named (on_names [] (pin_args pins) q h))
