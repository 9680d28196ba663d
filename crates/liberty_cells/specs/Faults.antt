-- The faults of a Liberty text beyond its grammar. Only statements that have ended are looked at; what
-- is missing, and a template that is not there, is a fault of a whole text alone.
use Rattle.std.specs.Prelude.{ℕ, ◌+◌, List, [], ◌∷◌, ◌++◌, Bool, true, false, ◌==◌, ◌||◌, not, nat_lt, codes, map, length, take, slice_get, pos, Option, Some, None, is_some, Result, Ok, Err, if◌then◌else◌}
use Rattle.std.specs.List.{flat_map}
use Rattle.std.specs.Result.{is_ok}
use Rattle.std.specs.Str.{bytes_eq}
use Rattle.sta_units.specs.Decimal.{decimal_of}
use Rattle.sta_units.specs.declared.units.Unit.{Unit}
use Rattle.timing_defs.specs.Names.{is_name}
use Rattle.timing_defs.specs.declared.codes.Code.{Code}
use Rattle.timing_defs.specs.declared.codes.Code.TheVariants.{LibertyBadToken, LibertyBadUnit, LibertyUnknownTemplate, LibertyDoubleName, LibertyOtherDelayModel, LibertyTooMany}
use Rattle.timing_defs.specs.declared.kinds.Dir.{Dir}
use Rattle.timing_defs.specs.declared.library.Library.{Library}
use Rattle.timing_defs.specs.declared.library.Units.{Units}
use Rattle.timing_defs.specs.declared.library.Table.{Table}
use Rattle.timing_defs.specs.declared.liberty_tree.Lexeme.{Lexeme}
use Rattle.timing_defs.specs.declared.liberty_tree.Tree.{Tree}
use Rattle.timing_defs.specs.declared.liberty_tree.Item.{Item}
use Rattle.sta_text.specs.declared.faults.Wrong.{Wrong}
use Rattle.sta_text.specs.Names.{stands}
use Rattle.liberty_syntax.specs.declared.reading.Reading.{Reading}
use Rattle.liberty_syntax.specs.declared.reading.Reading.TheVariants.{Whole, Broken}
use Rattle.liberty_syntax.specs.Grammar.{reading_of}
use Rattle.liberty_cells.specs.declared.library_units.Known.{Known}
use Rattle.liberty_cells.specs.declared.axes.Form.{Form}
use Rattle.liberty_cells.specs.declared.timing.Timing.{Timing}
use Rattle.liberty_cells.specs.declared.timing.Timing.TheVariants.{Between, From, Test}
use Rattle.liberty_cells.specs.declared.scope.Extent.{Extent}
use Rattle.liberty_cells.specs.declared.attributes.Check.{Check}
use Rattle.liberty_cells.specs.declared.attributes.Check.TheVariants.{TimeUnit, DelayModel, Sense, Direction, Capacitance, OneToken}
use Rattle.liberty_cells.specs.Statements.{groups, lists, values, one_text}
use Rattle.liberty_cells.specs.Units.{known, unit, time_named, cap_ten, power_of, is_cap}
use Rattle.liberty_cells.specs.Tables.{read_table}
use Rattle.liberty_cells.specs.Cells.{library_of, Pin, delay_form, test_form, pins_of, cells_of, templates_of, read_pins, pin_args, pin_names, timing_groups, timing_of, related}

-- a fault at a token
abbrev pub at : Code → Lexeme → List Wrong
at code x = record { code = code; at = x.offset } ∷ []

-- a fault at the first token of a value or list
abbrev pub at_first : Code → List Lexeme → List Wrong
at_first code [] = []
at_first code (x ∷ xs) = at code x

-- what is missing in a whole text is placed at its length
abbrev pub missing : Code → Extent → List Wrong
missing code e = (if e.whole then record { code = code; at = e.size } ∷ [] else [])

abbrev pub only_if : Bool → List Wrong → List Wrong
only_if fails faults = (if fails then faults else [])

-- what the text of a simple attribute's value has to be

abbrev pub is_time_unit : List ℕ → Bool
is_time_unit text = is_some (time_named text)

abbrev pub is_table_lookup : List ℕ → Bool
is_table_lookup text = bytes_eq text (codes "table_lookup")

abbrev pub is_sense : List ℕ → Bool
is_sense text =
    bytes_eq text (codes "positive_unate") || bytes_eq text (codes "negative_unate") || bytes_eq text (codes "non_unate")

abbrev pub is_direction : List ℕ → Bool
is_direction text =
    bytes_eq text (codes "input") || bytes_eq text (codes "output") || bytes_eq text (codes "inout")
    || bytes_eq text (codes "internal")

abbrev pub meets : Check → List ℕ → Bool
meets TimeUnit text = is_time_unit text
meets DelayModel text = is_table_lookup text
meets Sense text = is_sense text
meets Direction text = is_direction text
meets (Capacitance u) text = is_cap u text
meets OneToken text = true

-- a value is one token whose text is as it has to be
abbrev pub passes_text : Check → Option (List ℕ) → Bool
passes_text check None = false
passes_text check (Some text) = meets check text

abbrev pub value_faults : Code → Check → List Lexeme → List Wrong
value_faults code check value = only_if (not (passes_text check (one_text value))) (at_first code value)

-- each value of a simple attribute
abbrev pub each_value : Code → Check → List (List Lexeme) → List Wrong
each_value code check found = flat_map (value_faults code check) found

-- units and delay model

-- ten to a power, from 0.001 to 1000
abbrev pub factor_faults : Lexeme → List Wrong
factor_faults n =
    (if is_ok (decimal_of n.text (pos 0))
    then only_if (not (is_some (power_of n.text))) (at LibertyBadUnit n) else at LibertyBadToken n)

abbrev pub cap_word_faults : Lexeme → List Wrong
cap_word_faults word = only_if (not (is_some (cap_ten word.text))) (at LibertyBadUnit word)

abbrev pub cap_unit_faults : Extent → List Lexeme → List Wrong
cap_unit_faults e [] = missing LibertyBadUnit e
cap_unit_faults e (n ∷ []) = factor_faults n ++ missing LibertyBadUnit e
cap_unit_faults e (n ∷ word ∷ xs) = factor_faults n ++ (cap_word_faults word ++ at_first LibertyBadToken xs)

unfoldable pub cap_units_faults : Extent → List (List Lexeme) → List Wrong
cap_units_faults e found =
    only_if (length found == 0) (missing LibertyBadUnit e) ++ flat_map (cap_unit_faults e) found

unfoldable pub time_faults : List Item → List Wrong
time_faults items = each_value LibertyBadUnit TimeUnit (values (codes "time_unit") items)

unfoldable pub load_faults : Extent → List Item → List Wrong
load_faults e items = cap_units_faults e (lists (codes "capacitive_load_unit") items)

unfoldable pub model_faults : List Item → List Wrong
model_faults items = each_value LibertyOtherDelayModel DelayModel (values (codes "delay_model") items)

unfoldable pub header_faults : Extent → List Item → List Wrong
header_faults e items = time_faults items ++ (load_faults e items ++ model_faults items)

-- names

-- names that stand earlier
unfoldable pub doubles : List (List ℕ) → List Lexeme → List Wrong
doubles earlier [] = []
doubles earlier (x ∷ xs) =
    (if stands earlier x.text then at LibertyDoubleName x ++ doubles earlier xs else doubles (earlier ++ x.text ∷ []) xs)

abbrev pub name_faults : Lexeme → List Wrong
name_faults x = only_if (not (is_name x.text)) (at LibertyBadToken x)

-- the list of a group with one name
abbrev pub one_name_faults : Extent → List Lexeme → List Wrong
one_name_faults e [] = missing LibertyBadToken e
one_name_faults e (x ∷ xs) = name_faults x ++ at_first LibertyBadToken xs

-- the list of a group with one name or more
unfoldable pub names_faults : Extent → List Lexeme → List Wrong
names_faults e args = only_if (length args == 0) (missing LibertyBadToken e) ++ flat_map name_faults args

-- the group with which there are more than so many, of which each counts as many as its names
unfoldable pub too_many : ℕ → ℕ → List Tree → List Wrong
too_many limit seen [] = []
too_many limit seen (g ∷ gs) =
    (if nat_lt limit (seen + length g.args) then at LibertyTooMany g.word else too_many limit (seen + length g.args) gs)

-- tables

abbrev pub read_faults : Tree → Result Table Code → List Wrong
read_faults t (Ok table) = []
read_faults t (Err code) = at code t.word

abbrev pub form_faults : Extent → Tree → Lexeme → Option (Result Table Code) → List Wrong
form_faults e t x None = only_if e.whole (at LibertyUnknownTemplate x)
form_faults e t x (Some read) = read_faults t read

abbrev pub table_with_faults : Extent → Form → List Tree → Tree → List Lexeme → List Wrong
table_with_faults e form templates t [] = missing LibertyUnknownTemplate e
table_with_faults e form templates t (x ∷ xs) =
    at_first LibertyBadToken xs ++ form_faults e t x (read_table form templates x.text t.items)

abbrev pub table_faults : Extent → Form → List Tree → Tree → List Wrong
table_faults e form templates t = table_with_faults e form templates t t.args

-- the tables of a name in a group
abbrev pub tables_faults : Extent → Form → List Tree → List ℕ → Tree → List Wrong
tables_faults e form templates name group = flat_map (table_faults e form templates) (groups name group.items)

-- timing

unfoldable pub delay_faults : Extent → Form → List Tree → Tree → List Wrong
delay_faults e form templates group =
    tables_faults e form templates (codes "cell_rise") group ++ (tables_faults e form templates (codes "cell_fall") group
    ++ (tables_faults e form templates (codes "rise_transition") group
    ++ tables_faults e form templates (codes "fall_transition") group))

unfoldable pub need_faults : Extent → Form → List Tree → Tree → List Wrong
need_faults e form templates group =
    tables_faults e form templates (codes "rise_constraint") group
    ++ tables_faults e form templates (codes "fall_constraint") group

unfoldable pub sense_faults : List Item → List Wrong
sense_faults items = each_value LibertyBadToken Sense (values (codes "timing_sense") items)

unfoldable pub related_faults : List Item → List Wrong
related_faults items = each_value LibertyBadToken OneToken (values (codes "related_pin") items)

unfoldable pub type_faults : List Item → List Wrong
type_faults items = each_value LibertyBadToken OneToken (values (codes "timing_type") items)

-- what is read of a group with a related pin of the cell
unfoldable pub body_faults : Extent → Known → List Tree → Timing → Tree → List Wrong
body_faults e k templates Between group = sense_faults group.items ++ delay_faults e (delay_form k) templates group
body_faults e k templates (From edge) group = delay_faults e (delay_form k) templates group
body_faults e k templates (Test kind edge) group = need_faults e (test_form k) templates group

unfoldable pub reached_faults : Extent → Known → List Tree → List (List ℕ) → Timing → Tree → List Wrong
reached_faults e k templates names timing group =
    only_if (not (length (related names group) == 0)) (body_faults e k templates timing group)

unfoldable pub typed_faults : Extent → Known → List Tree → List (List ℕ) → Tree → Option Timing → List Wrong
typed_faults e k templates names group None = []
typed_faults e k templates names group (Some timing) =
    related_faults group.items ++ reached_faults e k templates names timing group

unfoldable pub timing_faults : Extent → Known → List Tree → List (List ℕ) → Dir → Tree → List Wrong
timing_faults e k templates names dir group =
    type_faults group.items ++ typed_faults e k templates names group (timing_of dir group)

-- pins and cells

abbrev pub direction_faults : Tree → List Wrong
direction_faults pin = each_value LibertyBadToken Direction (values (codes "direction") pin.items)

unfoldable pub load_of_pin_faults : Option Unit → List Item → List Wrong
load_of_pin_faults u items = each_value LibertyBadToken (Capacitance u) (values (codes "capacitance") items)

unfoldable pub pin_faults : Extent → Known → List Tree → List (List ℕ) → Pin → List Wrong
pin_faults e k templates names pin =
    names_faults e pin.tree.args
    ++ (load_of_pin_faults k.cap pin.tree.items
    ++ flat_map (timing_faults e k templates names pin.dir) (timing_groups pin.tree))

abbrev pub pin_tree : Pin → Tree
pin_tree p = p.tree

-- of a cell's pins that are read
unfoldable pub pins_faults : Extent → Known → List Tree → List Pin → List Wrong
pins_faults e k templates pins =
    doubles [] (pin_args pins)
    ++ (too_many 10000 0 (map pin_tree pins) ++ flat_map (pin_faults e k templates (pin_names pins)) pins)

unfoldable pub cell_faults : Extent → Known → List Tree → Tree → List Wrong
cell_faults e k templates cell =
    one_name_faults e cell.args
    ++ (flat_map direction_faults (pins_of cell) ++ pins_faults e k templates (read_pins cell))

-- the first names of groups, of those that have one
abbrev pub first_arg : Tree → List Lexeme
first_arg t = take 1 t.args

abbrev pub first_names : List Tree → List Lexeme
first_names trees = flat_map first_arg trees

abbrev pub excess : Option Tree → List Wrong
excess None = []
excess (Some cell) = at LibertyTooMany cell.word

-- the cell with which there are more than 10,000
abbrev pub too_many_cells : List Tree → List Wrong
too_many_cells cells = excess (slice_get cells 10000)

-- of these templates and cells
unfoldable pub group_faults : Extent → Known → List Tree → List Tree → List Wrong
group_faults e k templates cells =
    doubles [] (first_names templates)
    ++ (doubles [] (first_names cells) ++ (too_many_cells cells ++ flat_map (cell_faults e k templates) cells))

unfoldable pub statement_faults : Extent → List Item → List Wrong
statement_faults e items =
    header_faults e items ++ group_faults e (known e.whole items) (templates_of items) (cells_of items)

abbrev pub faults_in : ℕ → Reading → List Wrong
faults_in size (Whole tree) = statement_faults (record { size = size; whole = true }) tree.items
faults_in size (Broken items wrong) = wrong ∷ statement_faults (record { size = size; whole = false }) items

-- all faults of a text, and what is read of it where it has none
abbrev pub faults_of : List ℕ → List Wrong
faults_of bytes = faults_in (length bytes) (reading_of bytes)

abbrev pub library_in : Reading → Library
library_in (Whole tree) = library_of true tree.items
library_in (Broken items wrong) = library_of false items

-- the library that a text without a fault writes
abbrev pub library_of_text : List ℕ → Library
library_of_text bytes = library_in (reading_of bytes)

abbrev pub unit_or_one : Option Unit → Unit
unit_or_one None = unit (pos 0)
unit_or_one (Some u) = u

abbrev pub units_of : Known → Units
units_of k = record { time = unit_or_one k.time; cap = unit_or_one k.cap }

abbrev pub units_in : Reading → Units
units_in (Whole tree) = units_of (known true tree.items)
units_in (Broken items wrong) = units_of (known false items)

-- the units of a text without a fault
abbrev pub units_of_text : List ℕ → Units
units_of_text bytes = units_in (reading_of bytes)
