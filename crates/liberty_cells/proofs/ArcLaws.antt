-- The arcs and tests of a cell that is read: their pins are pins of the cell, and their tables are well formed.
use Rattle.std.proofs.Common.{◌≡◌, ℕ, List, Bool, true, ◌&&◌, cond, refl}
use Rattle.std.specs.Prelude.{codes, Option, Some, None, option_and_then}
use Rattle.std.specs.List.{flat_map}
use Rattle.std.specs.Str.{bytes_eq}
use Rattle.std.proofs.lemmas.Bool.{cond_both}
use Rattle.timing_defs.specs.Lookup.{is_well_formed}
use Rattle.timing_defs.specs.Names.{is_name}
use Rattle.timing_defs.specs.Documents.{has_pin, is_pin_of, is_cell_arc, is_cell_test}
use Rattle.timing_defs.specs.declared.kinds.Dir.{Dir}
use Rattle.timing_defs.specs.declared.kinds.Dir.TheVariants.{Input, Output}
use Rattle.timing_defs.specs.declared.kinds.Tran.{Tran}
use Rattle.timing_defs.specs.declared.kinds.Tran.TheVariants.{Rise, Fall}
use Rattle.timing_defs.specs.declared.kinds.Kind.{Kind}
use Rattle.timing_defs.specs.declared.library.Table.{Table}
use Rattle.timing_defs.specs.declared.library.Cell.{Cell}
use Rattle.timing_defs.specs.declared.liberty_tree.Lexeme.{Lexeme}
use Rattle.timing_defs.specs.declared.liberty_tree.Tree.{Tree}
use Rattle.timing_defs.specs.declared.liberty_tree.Item.{Item}
use Rattle.sta_text.specs.Names.{stands}
use Rattle.liberty_cells.specs.declared.library_units.Known.{Known}
use Rattle.liberty_cells.specs.declared.axes.Purpose.TheVariants.{Delay, Constraint}
use Rattle.liberty_cells.specs.declared.timing.Timing.{Timing}
use Rattle.liberty_cells.specs.declared.timing.Timing.TheVariants.{Between, From, Test}
use Rattle.liberty_cells.specs.declared.timing.Sense.{Sense}
use Rattle.liberty_cells.specs.declared.arcs.Arcs.{Arcs}
use Rattle.liberty_cells.specs.declared.needs.Needs.{Needs}
use Rattle.liberty_cells.specs.Statements.{values, last, text_of}
use Rattle.liberty_cells.specs.Cells.{Pin, names_in, texts_of, timing_named, type_text, timing_typed, timing_in, timing_of, words_of, related, trans_of, arc_from, arcs_to, group_arcs, arcs_between, arcs_from, all_arcs, group_tests, test_with, tests_between, tests_from, all_tests, arcs_with, tests_with, timing_groups, arcs_of, tests_of, pin_arcs, pin_tests}
use Rattle.liberty_cells.proofs.EachLaws.{Each, each_append, each_more, each_both, each_passed, each_kept, each_flat, each_flat_any, each_map_any}
use Rattle.liberty_cells.proofs.FormLaws.{IsKnown, IfFormed, table_formed}

-- arcs lead to output pins, tests stand at input pins

abbrev pub Suits : Dir → Option Timing → Type 0
Suits Input None = Unit {0}
Suits Output None = Unit {0}
Suits Input (Some Between) = ⊥
Suits Input (Some (From edge)) = ⊥
Suits Input (Some (Test kind edge)) = Unit {0}
Suits Output (Some Between) = Unit {0}
Suits Output (Some (From edge)) = Unit {0}
Suits Output (Some (Test kind edge)) = ⊥

choose : (dir : Dir) (b : Bool) (x y : Option Timing) → Suits dir x → Suits dir y → Suits dir (cond b x y)
choose dir b x y h k = cond_both b x y (Suits dir) (λ _. h) (λ _. k)

named_suits : (dir : Dir) (text : List ℕ) → Suits dir (timing_named dir text)
named_suits Output text =
    choose Output (bytes_eq text (codes "combinational")) _ _ tt
    (choose Output (bytes_eq text (codes "rising_edge")) _ _ tt (choose Output (bytes_eq text (codes "falling_edge")) _ _ tt tt))
named_suits Input text =
    choose Input (bytes_eq text (codes "setup_rising")) _ _ tt
    (choose Input (bytes_eq text (codes "setup_falling")) _ _ tt
    (choose Input (bytes_eq text (codes "hold_rising")) _ _ tt (choose Input (bytes_eq text (codes "hold_falling")) _ _ tt tt)))

text_suits : (dir : Dir) (text : Option (List ℕ)) → Suits dir (option_and_then (timing_named dir) text)
text_suits Input None = tt
text_suits Output None = tt
text_suits dir (Some text) = named_suits dir text

typed_suits : (dir : Dir) (value : Option (List Lexeme)) → Suits dir (timing_typed dir value)
unfolding timing_typed
typed_suits dir value = text_suits dir (type_text value)

timing_suits : (dir : Dir) (items : List Item) → Suits dir (timing_in dir items)
unfolding timing_in
timing_suits dir items = typed_suits dir (last (values (codes "timing_type") items))

-- arcs

three : (a b c : Bool) → a ≡ true → b ≡ true → c ≡ true → (a && b && c) ≡ true
three a b c h1 h2 h3 = rw (h1, h2, h3) refl

four : (a b c d : Bool) → a ≡ true → b ≡ true → c ≡ true → d ≡ true → (a && b && c && d) ≡ true
four a b c d h1 h2 h3 h4 = rw (h1, h2, h3, h4) refl

arc_made : (cell : Cell) (timing : Timing) (from to : List ℕ) (tran : Tran) (delay slew : Table) (tran_in : Tran) → is_pin_of cell from ≡ true → has_pin cell Output to ≡ true → is_well_formed delay ≡ true → is_well_formed slew ≡ true → is_cell_arc cell (arc_from timing from to tran delay slew tran_in) ≡ true
arc_made cell timing from to tran delay slew tran_in a b c d = four (is_pin_of cell from) (has_pin cell Output to) (is_well_formed delay) (is_well_formed slew) a b c d

arcs_made : (cell : Cell) (timing : Timing) (sense : Sense) (from to : List ℕ) (tran : Tran) (delay slew : Option Table) → is_pin_of cell from ≡ true → has_pin cell Output to ≡ true → IfFormed delay → IfFormed slew → Each (λ arc. is_cell_arc cell arc ≡ true) (arcs_to timing sense from to tran delay slew)
arcs_made cell timing sense from to tran None slew a b c d = tt
arcs_made cell timing sense from to tran (Some delay) None a b c d = tt
arcs_made cell timing sense from to tran (Some delay) (Some slew) a b c d =
    each_map_any (λ arc. is_cell_arc cell arc ≡ true) (arc_from timing from to tran delay slew)
    (λ tran_in. arc_made cell timing from to tran delay slew tran_in a b c d) (trans_of timing sense tran)

abbrev AreFormed : Arcs → Type 0
AreFormed g = IfFormed g.rise_delay × IfFormed g.rise_slew × IfFormed g.fall_delay × IfFormed g.fall_slew

between_made : (cell : Cell) (g : Arcs) (to from : List ℕ) → AreFormed g → is_pin_of cell from ≡ true → has_pin cell Output to ≡ true → Each (λ arc. is_cell_arc cell arc ≡ true) (arcs_between g to from)
between_made cell g to from h a b =
    each_append (λ arc. is_cell_arc cell arc ≡ true) (arcs_to g.timing g.sense from to Rise g.rise_delay g.rise_slew)
    (arcs_to g.timing g.sense from to Fall g.fall_delay g.fall_slew)
    (arcs_made cell g.timing g.sense from to Rise g.rise_delay g.rise_slew a b h.0 h.1)
    (arcs_made cell g.timing g.sense from to Fall g.fall_delay g.fall_slew a b h.2 h.3)

all_made : (cell : Cell) (g : Arcs) (froms tos : List (List ℕ)) → AreFormed g → Each (λ n. is_pin_of cell n ≡ true) froms → Each (λ n. has_pin cell Output n ≡ true) tos → Each (λ arc. is_cell_arc cell arc ≡ true) (all_arcs g froms tos)
all_made cell g froms tos h a b =
    each_flat (λ n. has_pin cell Output n ≡ true) (λ arc. is_cell_arc cell arc ≡ true) (arcs_from g froms)
    (λ to there. each_flat (λ n. is_pin_of cell n ≡ true) (λ arc. is_cell_arc cell arc ≡ true) (arcs_between g to)
    (λ from own. between_made cell g to from h own there) froms a) tos b

group_formed : (k : Known) (templates : List Tree) (group : Tree) (timing : Timing) → IsKnown k.time → IsKnown k.cap → AreFormed (group_arcs k templates group timing)
group_formed k templates group timing time cap = (
  table_formed Delay k templates (codes "cell_rise") group time cap,
  table_formed Delay k templates (codes "rise_transition") group time cap,
  table_formed Delay k templates (codes "cell_fall") group time cap,
  table_formed Delay k templates (codes "fall_transition") group time cap,
)

group_made : (cell : Cell) (k : Known) (templates : List Tree) (names : List (List ℕ)) (args : List Lexeme) (group : Tree) (dir : Dir) (timing : Option Timing) → Suits dir timing → IsKnown k.time → IsKnown k.cap → Each (λ n. is_pin_of cell n ≡ true) (names_in (related names group)) → Each (λ n. has_pin cell dir n ≡ true) (names_in (texts_of args)) → Each (λ arc. is_cell_arc cell arc ≡ true) (arcs_with k templates names args group timing)
group_made cell k templates names args group dir None s time cap a b = tt
group_made cell k templates names args group Output (Some Between) s time cap a b =
    all_made cell (group_arcs k templates group Between) (names_in (related names group)) (names_in (texts_of args)) (group_formed k templates group Between time cap) a b
group_made cell k templates names args group Output (Some (From edge)) s time cap a b =
    all_made cell (group_arcs k templates group (From edge)) (names_in (related names group)) (names_in (texts_of args)) (group_formed k templates group (From edge) time cap) a b
group_made cell k templates names args group Input (Some Between) s time cap a b = absurd s
group_made cell k templates names args group Input (Some (From edge)) s time cap a b = absurd s
group_made cell k templates names args group dir (Some (Test kind edge)) s time cap a b = tt

-- tests

test_made : (cell : Cell) (kind : Kind) (edge : Tran) (clock pin : List ℕ) (tran : Tran) (need : Option Table) → has_pin cell Input pin ≡ true → is_pin_of cell clock ≡ true → IfFormed need → Each (λ test. is_cell_test cell test ≡ true) (test_with kind edge clock pin tran need)
test_made cell kind edge clock pin tran None a b c = tt
test_made cell kind edge clock pin tran (Some need) a b c = (three (has_pin cell Input pin) (is_pin_of cell clock) (is_well_formed need) a b c, tt)

abbrev NeedsFormed : Needs → Type 0
NeedsFormed g = IfFormed g.rise × IfFormed g.fall

tests_made : (cell : Cell) (g : Needs) (pin clock : List ℕ) → NeedsFormed g → has_pin cell Input pin ≡ true → is_pin_of cell clock ≡ true → Each (λ test. is_cell_test cell test ≡ true) (tests_between g pin clock)
tests_made cell g pin clock h a b =
    each_append (λ test. is_cell_test cell test ≡ true) (test_with g.kind g.edge clock pin Rise g.rise) (test_with g.kind g.edge clock pin Fall g.fall)
    (test_made cell g.kind g.edge clock pin Rise g.rise a b h.0) (test_made cell g.kind g.edge clock pin Fall g.fall a b h.1)

all_tested : (cell : Cell) (g : Needs) (clocks pins : List (List ℕ)) → NeedsFormed g → Each (λ n. is_pin_of cell n ≡ true) clocks → Each (λ n. has_pin cell Input n ≡ true) pins → Each (λ test. is_cell_test cell test ≡ true) (all_tests g clocks pins)
all_tested cell g clocks pins h a b =
    each_flat (λ n. has_pin cell Input n ≡ true) (λ test. is_cell_test cell test ≡ true) (tests_from g clocks)
    (λ pin there. each_flat (λ n. is_pin_of cell n ≡ true) (λ test. is_cell_test cell test ≡ true) (tests_between g pin)
    (λ clock own. tests_made cell g pin clock h there own) clocks a) pins b

needs_formed : (k : Known) (templates : List Tree) (group : Tree) (kind : Kind) (edge : Tran) → IsKnown k.time → IsKnown k.cap → NeedsFormed (group_tests k templates group kind edge)
needs_formed k templates group kind edge time cap = (
  table_formed Constraint k templates (codes "rise_constraint") group time cap,
  table_formed Constraint k templates (codes "fall_constraint") group time cap,
)

group_tested : (cell : Cell) (k : Known) (templates : List Tree) (names : List (List ℕ)) (args : List Lexeme) (group : Tree) (dir : Dir) (timing : Option Timing) → Suits dir timing → IsKnown k.time → IsKnown k.cap → Each (λ n. is_pin_of cell n ≡ true) (names_in (related names group)) → Each (λ n. has_pin cell dir n ≡ true) (names_in (texts_of args)) → Each (λ test. is_cell_test cell test ≡ true) (tests_with k templates names args group timing)
group_tested cell k templates names args group dir None s time cap a b = tt
group_tested cell k templates names args group dir (Some Between) s time cap a b = tt
group_tested cell k templates names args group dir (Some (From edge)) s time cap a b = tt
group_tested cell k templates names args group Input (Some (Test kind edge)) s time cap a b =
    all_tested cell (group_tests k templates group kind edge) (names_in (related names group)) (names_in (texts_of args)) (needs_formed k templates group kind edge time cap) a b
group_tested cell k templates names args group Output (Some (Test kind edge)) s time cap a b = absurd s

-- of each pin

abbrev pub Reaches : Cell → List (List ℕ) → Type 0
Reaches cell names = (n : List ℕ) → is_name n ≡ true → stands names n ≡ true → is_pin_of cell n ≡ true

related_own : (cell : Cell) (names : List (List ℕ)) (group : Tree) → Reaches cell names → Each (λ n. is_pin_of cell n ≡ true) (names_in (related names group))
related_own cell names group reach =
    let words = words_of (text_of (codes "related_pin") group.items) in
    each_more (λ n. (is_name n ≡ true) × (stands names n ≡ true)) (λ n. is_pin_of cell n ≡ true) (λ n both. reach n both.0 both.1) (names_in (related names group))
    (each_both (λ n. is_name n ≡ true) (λ n. stands names n ≡ true) (names_in (related names group)) (each_passed is_name (related names group))
    (each_kept (λ n. stands names n ≡ true) is_name (related names group) (each_passed (stands names) words)))

abbrev pub HasPins : Cell → Pin → Type 0
HasPins cell pin = Each (λ n. has_pin cell pin.dir n ≡ true) (names_in (texts_of pin.tree.args))

pub pins_made : (cell : Cell) (k : Known) (templates : List Tree) (names : List (List ℕ)) (pins : List Pin) → IsKnown k.time → IsKnown k.cap → Reaches cell names → Each (HasPins cell) pins → Each (λ arc. is_cell_arc cell arc ≡ true) (flat_map (pin_arcs k templates names) pins)
pins_made cell k templates names pins time cap reach h =
    each_flat (HasPins cell) (λ arc. is_cell_arc cell arc ≡ true) (pin_arcs k templates names)
    (λ pin own. each_flat_any (λ arc. is_cell_arc cell arc ≡ true) (arcs_of k templates names pin)
    (λ group. group_made cell k templates names pin.tree.args group pin.dir (timing_of pin.dir group) (timing_suits pin.dir group.items) time cap (related_own cell names group reach) own)
    (timing_groups pin.tree)) pins h

pub pins_tested : (cell : Cell) (k : Known) (templates : List Tree) (names : List (List ℕ)) (pins : List Pin) → IsKnown k.time → IsKnown k.cap → Reaches cell names → Each (HasPins cell) pins → Each (λ test. is_cell_test cell test ≡ true) (flat_map (pin_tests k templates names) pins)
pins_tested cell k templates names pins time cap reach h =
    each_flat (HasPins cell) (λ test. is_cell_test cell test ≡ true) (pin_tests k templates names)
    (λ pin own. each_flat_any (λ test. is_cell_test cell test ≡ true) (tests_of k templates names pin)
    (λ group. group_tested cell k templates names pin.tree.args group pin.dir (timing_of pin.dir group) (timing_suits pin.dir group.items) time cap (related_own cell names group reach) own)
    (timing_groups pin.tree)) pins h
