-- A library that is read: at most 10,000 cells of distinct names, and each of its form.
use Rattle.std.proofs.Common.{◌≡◌, ℕ, zero, suc, ◌≤◌, List, [], ◌∷◌, ◌++◌, Bool, true, ◌&&◌, not, map, take, length, refl, ap, sym, ◌∙◌, arith, length-append}
use Rattle.std.specs.Prelude.{nat_le, slice_get, codes, Result, Ok, Err, MatchResult, IfOk}
use Rattle.std.specs.List.{list_all, list_any, flat_map}
use Rattle.std.proofs.lemmas.Bool.{le-leb}
use Rattle.timing_defs.specs.Names.{is_name}
use Rattle.timing_defs.specs.Netlist.{are_distinct}
use Rattle.timing_defs.specs.Edits.{has_colon as has_colon_in}
use Rattle.timing_defs.specs.Documents.{is_amount, has_pin, is_cell_arc, is_cell_test, is_cell, is_library}
use Rattle.timing_defs.specs.declared.codes.ReadFault.{ReadFault}
use Rattle.timing_defs.specs.declared.library.Library.{Library}
use Rattle.timing_defs.specs.declared.liberty_tree.Lexeme.{Lexeme}
use Rattle.timing_defs.specs.declared.liberty_tree.Tree.{Tree}
use Rattle.timing_defs.specs.declared.liberty_tree.Item.{Item}
use Rattle.sta_text.specs.Faults.{Fails}
use Rattle.sta_text.proofs.DistinctLemmas.{lone_distinct}
use Rattle.liberty_syntax.specs.declared.reading.Reading.{Reading}
use Rattle.liberty_syntax.specs.declared.reading.Reading.TheVariants.{Whole, Broken}
use Rattle.liberty_syntax.specs.Grammar.{reading_of}
use Rattle.liberty_cells.specs.declared.library_units.Known.{Known}
use Rattle.liberty_cells.specs.declared.scope.Extent.{Extent}
use Rattle.liberty_cells.specs.Statements.{groups}
use Rattle.liberty_cells.specs.Units.{known}
use Rattle.liberty_cells.specs.Cells.{Pin, pins_of, is_kept, cells_of, templates_of, read_pins, texts_of, pin_args, pin_names, names_in, timing_groups, cap_of_pin, cell_pins, first_name, cell_with, cell_in, library_of}
use Rattle.liberty_cells.specs.Faults.{one_name_faults, names_faults, direction_faults, doubles, too_many, load_of_pin_faults, timing_faults, pin_faults, pin_tree, pins_faults, cell_faults, first_arg, first_names, excess, too_many_cells, header_faults, group_faults, statement_faults, faults_in, faults_of, library_in, library_of_text}
use Rattle.liberty_cells.proofs.EachLaws.{Each, each_more, each_both, each_none, each_passed, each_flat, each_map_any, test_each, parts_none, map_append, filter_append, fewer, same_length}
use Rattle.liberty_cells.proofs.FormLaws.{IsKnown}
use Rattle.liberty_cells.proofs.PinLaws.{IsPlain, IsOwn, fits, doubles_lone, lone_filter, pins_distinct, pins_few, pins_plain, pin_amount, pins_formed, pins_own, dir_found, pin_reached}
use Rattle.liberty_cells.proofs.ArcLaws.{HasPins, Reaches, pins_made, pins_tested}
use Rattle.liberty_cells.proofs.UnitLaws.{AreFull, FullReading, reading_full, units_known}

-- a cell

five : (a b c d e : Bool) → a ≡ true → b ≡ true → c ≡ true → d ≡ true → e ≡ true → (a && b && c && d && e) ≡ true
five a b c d e h1 h2 h3 h4 h5 = rw (h1, h2, h3, h4, h5) refl

three : (a b c : Bool) → a ≡ true → b ≡ true → c ≡ true → (a && b && c) ≡ true
three a b c h1 h2 h3 = rw (h1, h2, h3) refl

amount_of : (e : Extent) (k : Known) (templates : List Tree) (names : List (List ℕ)) (pin : Pin) → pin_faults e k templates names pin ≡ [] → is_amount (cap_of_pin k.cap pin.tree) ≡ true
unfolding pin_faults
amount_of e k templates names pin h =
    let timing = flat_map (timing_faults e k templates names pin.dir) (timing_groups pin.tree) in
    let behind = (parts_none (names_faults e pin.tree.args) (load_of_pin_faults k.cap pin.tree.items ++ timing) h).1 in
    pin_amount k.cap pin.tree (parts_none (load_of_pin_faults k.cap pin.tree.items) timing behind).0

pins_cell : (e : Extent) (k : Known) (templates : List Tree) (pins : List Pin) (name : List ℕ) → IsKnown k.time → IsKnown k.cap → Each (λ pin. IsPlain pin.tree) pins → pins_faults e k templates pins ≡ [] → is_cell (cell_with k templates pins name) ≡ true
unfolding pins_faults
pins_cell e k templates pins name time cap plain h =
    let each_pin = flat_map (pin_faults e k templates (pin_names pins)) pins in
    let single = parts_none (doubles [] (pin_args pins)) (too_many 10000 0 (map pin_tree pins) ++ each_pin) h in
    let count = parts_none (too_many 10000 0 (map pin_tree pins)) each_pin single.1 in
    let cell = cell_with k templates pins name in
    let all = flat_map (cell_pins k.cap) pins in
    let distinct = pins_distinct k.cap pins single.0 in
    let amounts = each_more (λ pin. pin_faults e k templates (pin_names pins) pin ≡ []) (λ pin. is_amount (cap_of_pin k.cap pin.tree) ≡ true)
    (λ pin none. amount_of e k templates (pin_names pins) pin none) pins (each_none (pin_faults e k templates (pin_names pins)) pins count.1) in
    let own = each_more (IsOwn all) (HasPins cell)
    (λ pin hs. each_more (λ n. list_any (fits pin.dir n) all ≡ true) (λ n. has_pin cell pin.dir n ≡ true)
    (λ n g. dir_found pin.dir n all distinct g) (names_in (texts_of pin.tree.args)) hs) pins (pins_own k.cap all pins (λ dir n g. g)) in
    let reach : Reaches cell (pin_names pins) = λ n named there. pin_reached k.cap pins n named there in
    five (nat_le (length all) 10000) (are_distinct (map (λ p. p.name) all)) (list_all (λ p. not (has_colon_in p.name) && is_amount p.cap.0) all)
    (list_all (is_cell_arc cell) cell.arcs) (list_all (is_cell_test cell) cell.tests)
    (pins_few k.cap pins count.0) distinct
    (test_each (λ p. not (has_colon_in p.name) && is_amount p.cap.0) all (pins_formed k.cap pins plain amounts))
    (test_each (is_cell_arc cell) cell.arcs (pins_made cell k templates (pin_names pins) pins time cap reach own))
    (test_each (is_cell_test cell) cell.tests (pins_tested cell k templates (pin_names pins) pins time cap reach own))

cell_formed : (e : Extent) (k : Known) (templates : List Tree) (tree : Tree) (name : List ℕ) → IsKnown k.time → IsKnown k.cap → is_kept tree ≡ true → cell_faults e k templates tree ≡ [] → is_cell (cell_with k templates (read_pins tree) name) ≡ true
unfolding cell_faults
cell_formed e k templates tree name time cap kept h =
    let behind = parts_none (one_name_faults e tree.args) (flat_map direction_faults (pins_of tree) ++ pins_faults e k templates (read_pins tree)) h in
    let pins = parts_none (flat_map direction_faults (pins_of tree)) (pins_faults e k templates (read_pins tree)) behind.1 in
    pins_cell e k templates (read_pins tree) name time cap (pins_plain tree kept) pins.1

abbrev IsFine : Extent → Known → List Tree → Tree → Type 0
IsFine e k templates tree = (is_kept tree ≡ true) × (cell_faults e k templates tree ≡ [])

cells_formed : (e : Extent) (k : Known) (templates cells : List Tree) → IsKnown k.time → IsKnown k.cap → Each (IsFine e k templates) cells → Each (λ cell. is_cell cell ≡ true) (flat_map (cell_in k templates) cells)
cells_formed e k templates cells time cap h =
    each_flat (IsFine e k templates) (λ cell. is_cell cell ≡ true) (cell_in k templates)
    (λ tree fine. each_map_any (λ cell. is_cell cell ≡ true) (cell_with k templates (read_pins tree))
    (λ name. cell_formed e k templates tree name time cap fine.0 fine.1) (first_name tree.args)) cells h

-- names and number of cells

cell_names : (k : Known) (templates : List Tree) (pins : List Pin) (ns : List (List ℕ)) → map (λ cell. cell.name) (map (cell_with k templates pins) ns) ≡ ns
cell_names k templates pins [] = refl
cell_names k templates pins (n ∷ ns) = ap (λ rest. n ∷ rest) (cell_names k templates pins ns)

name_of_cell : (k : Known) (templates : List Tree) (pins : List Pin) (args : List Lexeme) → map (λ cell. cell.name) (map (cell_with k templates pins) (first_name args)) ≡ names_in (texts_of (take 1 args))
name_of_cell k templates pins [] = refl
name_of_cell k templates pins (x ∷ xs) = cell_names k templates pins (names_in (x.text ∷ []))

names_of_cells : (k : Known) (templates cells : List Tree) → map (λ cell. cell.name) (flat_map (cell_in k templates) cells) ≡ names_in (texts_of (first_names cells))
names_of_cells k templates [] = refl
names_of_cells k templates (t ∷ ts) =
    map_append (λ cell. cell.name) (cell_in k templates t) (flat_map (cell_in k templates) ts)
    ∙ (ap (λ xs. xs ++ map (λ cell. cell.name) (flat_map (cell_in k templates) ts)) (name_of_cell k templates (read_pins t) t.args)
    ∙ (ap (λ xs. names_in (texts_of (first_arg t)) ++ xs) (names_of_cells k templates ts)
    ∙ (sym (filter_append is_name (texts_of (first_arg t)) (texts_of (first_names ts)))
    ∙ ap names_in (sym (map_append (λ (x : Lexeme). x.text) (first_arg t) (first_names ts))))))

cells_distinct : (k : Known) (templates cells : List Tree) → doubles [] (first_names cells) ≡ [] → are_distinct (map (λ cell. cell.name) (flat_map (cell_in k templates) cells)) ≡ true
cells_distinct k templates cells h =
    ap are_distinct (names_of_cells k templates cells)
    ∙ lone_distinct [] (names_in (texts_of (first_names cells))) (lone_filter is_name [] (texts_of (first_names cells)) (doubles_lone [] (first_names cells) h))

one_first : (args : List Lexeme) → length (take 1 args) ≤ 1
one_first [] = omega arith
one_first (x ∷ xs) = omega arith

first_few : (cells : List Tree) → length (first_names cells) ≤ length cells
first_few [] = omega arith
first_few (t ∷ ts) =
    let rest = first_few ts in
    let one = one_first t.args in
    let sum = length-append (first_arg t) (first_names ts) in omega (arith, rest, one, sum)

not_there : (cells : List Tree) (n : ℕ) → excess (slice_get cells n) ≡ [] → length cells ≤ n
not_there [] n h = omega arith
not_there (t ∷ ts) zero h = absurd (cc)
not_there (t ∷ ts) (suc n) h = let rest = not_there ts n h in omega (arith, rest)

cells_few : (k : Known) (templates cells : List Tree) → too_many_cells cells ≡ [] → nat_le (length (flat_map (cell_in k templates) cells)) 10000 ≡ true
cells_few k templates cells h =
    let count = not_there cells 10000 h in
    let firsts = first_few cells in
    let named = fewer is_name (texts_of (first_names cells)) in
    let texts = same_length (λ (x : Lexeme). x.text) (first_names cells) in
    let cells_named = same_length (λ cell. cell.name) (flat_map (cell_in k templates) cells) in
    let names = ap length (names_of_cells k templates cells) in
    le-leb (length (flat_map (cell_in k templates) cells)) 10000 (omega (arith, count, firsts, named, texts, cells_named, names))

-- a library

groups_formed : (e : Extent) (k : Known) (templates cells : List Tree) → IsKnown k.time → IsKnown k.cap → Each (λ tree. is_kept tree ≡ true) cells → group_faults e k templates cells ≡ [] → is_library (record { cells = flat_map (cell_in k templates) cells }) ≡ true
unfolding group_faults
groups_formed e k templates cells time cap kept h =
    let each_cell = flat_map (cell_faults e k templates) cells in
    let behind = parts_none (doubles [] (first_names templates)) (doubles [] (first_names cells) ++ (too_many_cells cells ++ each_cell)) h in
    let single = parts_none (doubles [] (first_names cells)) (too_many_cells cells ++ each_cell) behind.1 in
    let count = parts_none (too_many_cells cells) each_cell single.1 in
    let all = flat_map (cell_in k templates) cells in
    three (nat_le (length all) 10000) (are_distinct (map (λ cell. cell.name) all)) (list_all is_cell all)
    (cells_few k templates cells count.0) (cells_distinct k templates cells single.0)
    (test_each is_cell all
    (cells_formed e k templates cells time cap
    (each_both (λ tree. is_kept tree ≡ true) (λ tree. cell_faults e k templates tree ≡ []) cells kept (each_none (cell_faults e k templates) cells count.1))))

statements_formed : (size : ℕ) (items : List Item) → AreFull items → statement_faults (record { size = size; whole = true }) items ≡ [] → is_library (library_of true items) ≡ true
unfolding statement_faults
statements_formed size items full h =
    let e : Extent = record { size = size; whole = true } in
    let parts = parts_none (header_faults e items) (group_faults e (known true items) (templates_of items) (cells_of items)) h in
    let units = units_known size items full parts.0 in
    groups_formed e (known true items) (templates_of items) (cells_of items) units.0 units.1
    (each_passed is_kept (groups (codes "cell") items)) parts.1

reading_formed : (size : ℕ) (reading : Reading) → FullReading reading → faults_in size reading ≡ [] → is_library (library_in reading) ≡ true
reading_formed size (Whole tree) full h = statements_formed size tree.items full h
reading_formed size (Broken items wrong) full h = absurd (cc)

-- a text without faults gives such a library
good : (bytes : List ℕ) → faults_of bytes ≡ [] → is_library (library_of_text bytes) ≡ true
good bytes h = reading_formed (length bytes) (reading_of bytes) (reading_full bytes) h

pub library_kept : (result : Result Library ReadFault) (bytes : List ℕ) → MatchResult result (λ library. (faults_of bytes ≡ []) × (library ≡ library_of_text bytes)) (λ e. Fails e (faults_of bytes)) → IfOk result (λ library. is_library library ≡ true)
library_kept (Ok library) bytes h = ap is_library h.1 ∙ good bytes h.0
library_kept (Err fault) bytes h = tt
