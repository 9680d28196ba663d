-- The cells of a library (Liberty Reference Manual, "cell", "pin", "timing").
use Rattle.std.specs.Prelude.{ℕ, List, [], ◌∷◌, ◌++◌, Bool, false, ◌==◌, ◌||◌, not, codes, map, length, ℤ, pos, Option, Some, None, option_and_then, Result, Ok, Err, if◌then◌else◌}
use Rattle.std.specs.List.{list_any, filter, flat_map}
use Rattle.std.specs.Str.{bytes_eq}
use Rattle.sta_units.specs.declared.units.Unit.{Unit}
use Rattle.timing_defs.specs.Names.{is_name}
use Rattle.timing_defs.specs.declared.codes.Code.{Code}
use Rattle.timing_defs.specs.declared.kinds.Dir.{Dir}
use Rattle.timing_defs.specs.declared.kinds.Dir.TheVariants.{Input, Output}
use Rattle.timing_defs.specs.declared.kinds.Tran.{Tran}
use Rattle.timing_defs.specs.declared.kinds.Tran.TheVariants.{Rise, Fall}
use Rattle.timing_defs.specs.declared.kinds.Kind.{Kind}
use Rattle.timing_defs.specs.declared.kinds.Kind.TheVariants.{Setup, Hold}
use Rattle.timing_defs.specs.declared.kinds.ArcKind.{ArcKind}
use Rattle.timing_defs.specs.declared.kinds.ArcKind.TheVariants.{Comb, Edge}
use Rattle.timing_defs.specs.declared.library.Table.{Table}
use Rattle.timing_defs.specs.declared.library.Cell.{Cell}
use Rattle.timing_defs.specs.declared.library.CellPin.{CellPin}
use Rattle.timing_defs.specs.declared.library.CellArc.{CellArc}
use Rattle.timing_defs.specs.declared.library.CellTest.{CellTest}
use Rattle.timing_defs.specs.declared.library.Library.{Library}
use Rattle.timing_defs.specs.declared.liberty_tree.Lexeme.{Lexeme}
use Rattle.timing_defs.specs.declared.liberty_tree.Tree.{Tree}
use Rattle.timing_defs.specs.declared.liberty_tree.Item.{Item}
use Rattle.sta_text.specs.Names.{stands}
use Rattle.liberty_cells.specs.declared.library_units.Known.{Known}
use Rattle.liberty_cells.specs.declared.axes.Purpose.TheVariants.{Delay, Constraint}
use Rattle.liberty_cells.specs.declared.axes.Form.{Form}
use Rattle.liberty_cells.specs.declared.timing.Timing.{Timing}
use Rattle.liberty_cells.specs.declared.timing.Timing.TheVariants.{Between, From, Test}
use Rattle.liberty_cells.specs.declared.timing.Sense.{Sense}
use Rattle.liberty_cells.specs.declared.timing.Sense.TheVariants.{Keeps, Inverts, Any}
use Rattle.liberty_cells.specs.declared.pins.Pin.{Pin as PinRef}
use Rattle.liberty_cells.specs.declared.arcs.Arcs.{Arcs}
use Rattle.liberty_cells.specs.declared.needs.Needs.{Needs}
use Rattle.liberty_cells.specs.Statements.{groups, values, last, one_text, text_of}
use Rattle.liberty_cells.specs.Units.{known, number_or_zero}
use Rattle.liberty_cells.specs.Tables.{words, read_table}

-- a pin's direction: input or output; pins of another one, or of none, are passed over
abbrev pub dir_named : List ℕ → Option Dir
dir_named text =
    (if bytes_eq text (codes "input") then Some Input else (if bytes_eq text (codes "output") then Some Output else None))

abbrev pub dir_of : Tree → Option Dir
dir_of pin = option_and_then dir_named (text_of (codes "direction") pin.items)

abbrev pub is_inout_text : Option (List ℕ) → Bool
is_inout_text None = false
is_inout_text (Some text) = bytes_eq text (codes "inout")

abbrev pub is_colon : ℕ → Bool
is_colon b = b == 58

abbrev pub has_colon : Lexeme → Bool
has_colon x = list_any is_colon x.text

abbrev pub pins_of : Tree → List Tree
pins_of cell = groups (codes "pin") cell.items

abbrev pub is_left_out_pin : Tree → Bool
is_left_out_pin pin = is_inout_text (text_of (codes "direction") pin.items) || list_any has_colon pin.args

abbrev pub has_group : List ℕ → Tree → Bool
has_group name cell = not (length (groups name cell.items) == 0)

-- a cell with a bus, a bundle, an inout pin or a pin name with a colon is not in the library
abbrev pub is_kept : Tree → Bool
is_kept cell =
    not (has_group (codes "bus") cell || has_group (codes "bundle") cell || list_any is_left_out_pin (pins_of cell))

abbrev pub cells_of : List Item → List Tree
cells_of items = filter is_kept (groups (codes "cell") items)

abbrev pub templates_of : List Item → List Tree
templates_of items = groups (codes "lu_table_template") items

-- a pin group that is read, with its direction
pub record Pin : Type 0 where
  pub tree : Tree
  pub dir : Dir

abbrev pub pin_with : Tree → Option Dir → List Pin
pin_with tree None = []
pin_with tree (Some dir) = record { tree = tree; dir = dir } ∷ []

abbrev pub pin_in : Tree → List Pin
pin_in tree = pin_with tree (dir_of tree)

abbrev pub read_pins : Tree → List Pin
read_pins cell = flat_map pin_in (pins_of cell)

abbrev pub pin_told : PinRef → Pin
pin_told p = record { tree = p.tree.now; dir = p.dir }

abbrev pub pins_told : List PinRef → List Pin
pins_told found = map pin_told found

abbrev pub texts_of : List Lexeme → List (List ℕ)
texts_of args = map (λ (x : Lexeme). x.text) args

-- names with one more, where it is new
abbrev pub with_name : List (List ℕ) → List ℕ → List (List ℕ)
with_name names name = (if stands names name then names else names ++ name ∷ [])

-- names with those of a list of arguments, each once
unfoldable pub names_on : List (List ℕ) → List Lexeme → List (List ℕ)
names_on names [] = names
names_on names (x ∷ xs) = names_on (with_name names x.text) xs

abbrev pub args_of : Pin → List Lexeme
args_of p = p.tree.args

abbrev pub pin_args : List Pin → List Lexeme
pin_args pins = flat_map args_of pins

-- the names of a cell's pins
abbrev pub pin_names : List Pin → List (List ℕ)
pin_names pins = names_on [] (pin_args pins)

-- those that are names
abbrev pub names_in : List (List ℕ) → List (List ℕ)
names_in found = filter is_name found

abbrev pub output_timing : List ℕ → Option Timing
output_timing text =
    (if bytes_eq text (codes "combinational") then Some Between else
    (if bytes_eq text (codes "rising_edge") then Some (From Rise) else
    (if bytes_eq text (codes "falling_edge") then Some (From Fall) else None)))

abbrev pub input_timing : List ℕ → Option Timing
input_timing text =
    (if bytes_eq text (codes "setup_rising") then Some (Test Setup Rise) else
    (if bytes_eq text (codes "setup_falling") then Some (Test Setup Fall) else
    (if bytes_eq text (codes "hold_rising") then Some (Test Hold Rise) else
    (if bytes_eq text (codes "hold_falling") then Some (Test Hold Fall) else None))))

abbrev pub timing_named : Dir → List ℕ → Option Timing
timing_named Output text = output_timing text
timing_named Input text = input_timing text

-- without a type a group is combinational
abbrev pub type_text : Option (List Lexeme) → Option (List ℕ)
type_text None = Some (codes "combinational")
type_text (Some value) = one_text value

-- what a group with this last type is
unfoldable pub timing_typed : Dir → Option (List Lexeme) → Option Timing
timing_typed dir value = option_and_then (timing_named dir) (type_text value)

unfoldable pub timing_in : Dir → List Item → Option Timing
timing_in dir items = timing_typed dir (last (values (codes "timing_type") items))

abbrev pub timing_of : Dir → Tree → Option Timing
timing_of dir group = timing_in dir group.items

abbrev pub words_of : Option (List ℕ) → List (List ℕ)
words_of None = []
words_of (Some text) = words text

-- the related pins that are pins of the cell
abbrev pub related : List (List ℕ) → Tree → List (List ℕ)
related pins group = filter (stands pins) (words_of (text_of (codes "related_pin") group.items))

abbrev pub sense_named : List ℕ → Sense
sense_named text =
    (if bytes_eq text (codes "positive_unate") then Keeps else
    (if bytes_eq text (codes "negative_unate") then Inverts else Any))

abbrev pub sense_or_any : Option (List ℕ) → Sense
sense_or_any None = Any
sense_or_any (Some text) = sense_named text

-- without a sense an arc is read as non-unate (own)
abbrev pub sense_of : Tree → Sense
sense_of group = sense_or_any (text_of (codes "timing_sense") group.items)

abbrev pub other : Tran → Tran
other Rise = Fall
other Fall = Rise

-- the input transitions of an arc to an output transition
abbrev pub from_trans : Sense → Tran → List Tran
from_trans Keeps to = to ∷ []
from_trans Inverts to = other to ∷ []
from_trans Any to = Rise ∷ Fall ∷ []

abbrev pub trans_of : Timing → Sense → Tran → List Tran
trans_of Between sense to = from_trans sense to
trans_of (From edge) sense to = edge ∷ []
trans_of (Test kind edge) sense to = []

abbrev pub kind_of : Timing → ArcKind
kind_of Between = Comb
kind_of (From edge) = Edge
kind_of (Test kind edge) = Edge

abbrev pub table_read : Option (Result Table Code) → Option Table
table_read None = None
table_read (Some (Err code)) = None
table_read (Some (Ok table)) = Some table

-- the table that a group writes
abbrev pub table_named : Form → List Tree → List Item → List Lexeme → Option Table
table_named form templates table [] = None
table_named form templates table (x ∷ xs) = table_read (read_table form templates x.text table)

-- the last table of a name in a group of timing
abbrev pub table_of : Form → List Tree → List ℕ → Tree → Option Table
table_of form templates name group =
    option_and_then (λ (t : Tree). table_named form templates t.items t.args) (last (groups name group.items))

abbrev pub delay_form : Known → Form
delay_form k = record { purpose = Delay; known = k }

abbrev pub test_form : Known → Form
test_form k = record { purpose = Constraint; known = k }

-- an arc from a transition of a pin to a transition of another
abbrev pub arc_from : Timing → List ℕ → List ℕ → Tran → Table → Table → Tran → CellArc
arc_from timing from to tran delay slew tran_in =
    record {
      from = from;
      from_tran = tran_in;
      to = to;
      to_tran = tran;
      kind = kind_of timing;
      delay = delay;
      slew = slew;
    }

-- the arcs to a transition; without both tables there is none
abbrev pub arcs_to : Timing → Sense → List ℕ → List ℕ → Tran → Option Table → Option Table → List CellArc
arcs_to timing sense from to tran None slew = []
arcs_to timing sense from to tran (Some delay) None = []
arcs_to timing sense from to tran (Some delay) (Some slew) =
    map (arc_from timing from to tran delay slew) (trans_of timing sense tran)

-- what a group of timing says of arcs
abbrev pub group_arcs : Known → List Tree → Tree → Timing → Arcs
group_arcs k templates group timing =
    record {
      timing = timing;
      sense = sense_of group;
      rise_delay = table_of (delay_form k) templates (codes "cell_rise") group;
      rise_slew = table_of (delay_form k) templates (codes "rise_transition") group;
      fall_delay = table_of (delay_form k) templates (codes "cell_fall") group;
      fall_slew = table_of (delay_form k) templates (codes "fall_transition") group;
    }

-- the arcs between two pins, rise before fall
abbrev pub arcs_between : Arcs → List ℕ → List ℕ → List CellArc
arcs_between g to from =
    arcs_to g.timing g.sense from to Rise g.rise_delay g.rise_slew
    ++ arcs_to g.timing g.sense from to Fall g.fall_delay g.fall_slew

abbrev pub arcs_from : Arcs → List (List ℕ) → List ℕ → List CellArc
arcs_from g froms to = flat_map (arcs_between g to) froms

-- of each pin and each related pin in order
abbrev pub all_arcs : Arcs → List (List ℕ) → List (List ℕ) → List CellArc
all_arcs g froms tos = flat_map (arcs_from g froms) tos

-- what a group of timing says of tests
abbrev pub group_tests : Known → List Tree → Tree → Kind → Tran → Needs
group_tests k templates group kind edge =
    record {
      kind = kind;
      edge = edge;
      rise = table_of (test_form k) templates (codes "rise_constraint") group;
      fall = table_of (test_form k) templates (codes "fall_constraint") group;
    }

abbrev pub test_with : Kind → Tran → List ℕ → List ℕ → Tran → Option Table → List CellTest
test_with kind edge clock pin tran None = []
test_with kind edge clock pin tran (Some need) =
    record { pin = pin; tran = tran; clock = clock; active = edge; kind = kind; need = need } ∷ []

abbrev pub tests_between : Needs → List ℕ → List ℕ → List CellTest
tests_between g pin clock =
    test_with g.kind g.edge clock pin Rise g.rise ++ test_with g.kind g.edge clock pin Fall g.fall

abbrev pub tests_from : Needs → List (List ℕ) → List ℕ → List CellTest
tests_from g clocks pin = flat_map (tests_between g pin) clocks

abbrev pub all_tests : Needs → List (List ℕ) → List (List ℕ) → List CellTest
all_tests g clocks pins = flat_map (tests_from g clocks) pins

abbrev pub arcs_with : Known → List Tree → List (List ℕ) → List Lexeme → Tree → Option Timing → List CellArc
arcs_with k templates names args group None = []
arcs_with k templates names args group (Some Between) =
    all_arcs (group_arcs k templates group Between) (names_in (related names group)) (names_in (texts_of args))
arcs_with k templates names args group (Some (From edge)) =
    all_arcs (group_arcs k templates group (From edge)) (names_in (related names group)) (names_in (texts_of args))
arcs_with k templates names args group (Some (Test kind edge)) = []

abbrev pub tests_with : Known → List Tree → List (List ℕ) → List Lexeme → Tree → Option Timing → List CellTest
tests_with k templates names args group None = []
tests_with k templates names args group (Some Between) = []
tests_with k templates names args group (Some (From edge)) = []
tests_with k templates names args group (Some (Test kind edge)) =
    all_tests (group_tests k templates group kind edge) (names_in (related names group)) (names_in (texts_of args))

abbrev pub timing_groups : Tree → List Tree
timing_groups pin = groups (codes "timing") pin.items

-- the arcs and the tests of a group of a pin, in a cell with these names of pins
abbrev pub arcs_of : Known → List Tree → List (List ℕ) → Pin → Tree → List CellArc
arcs_of k templates names pin group = arcs_with k templates names pin.tree.args group (timing_of pin.dir group)

abbrev pub tests_of : Known → List Tree → List (List ℕ) → Pin → Tree → List CellTest
tests_of k templates names pin group = tests_with k templates names pin.tree.args group (timing_of pin.dir group)

abbrev pub pin_arcs : Known → List Tree → List (List ℕ) → Pin → List CellArc
pin_arcs k templates names pin = flat_map (arcs_of k templates names pin) (timing_groups pin.tree)

abbrev pub pin_tests : Known → List Tree → List (List ℕ) → Pin → List CellTest
pin_tests k templates names pin = flat_map (tests_of k templates names pin) (timing_groups pin.tree)

-- a pin's capacitance, 0 where it is not written
unfoldable pub cap_in : Option Unit → Option (List ℕ) → ℤ
cap_in u None = pos 0
cap_in u (Some text) = number_or_zero u text

abbrev pub cap_of_pin : Option Unit → Tree → ℤ
cap_of_pin u pin = cap_in u (text_of (codes "capacitance") pin.items)

abbrev pub cell_pin : Dir → ℤ → List ℕ → CellPin
cell_pin dir cap name = record { name = name; dir = dir; cap = record { 0 = cap } }

abbrev pub cell_pins : Option Unit → Pin → List CellPin
cell_pins u pin = map (cell_pin pin.dir (cap_of_pin u pin.tree)) (names_in (texts_of pin.tree.args))

abbrev pub first_name : List Lexeme → List (List ℕ)
first_name [] = []
first_name (x ∷ xs) = names_in (x.text ∷ [])

abbrev pub cell_with : Known → List Tree → List Pin → List ℕ → Cell
cell_with k templates pins name =
    record {
      name = name;
      pins = flat_map (cell_pins k.cap) pins;
      arcs = flat_map (pin_arcs k templates (pin_names pins)) pins;
      tests = flat_map (pin_tests k templates (pin_names pins)) pins;
    }

-- a cell that has a name
abbrev pub cell_in : Known → List Tree → Tree → List Cell
cell_in k templates cell = map (cell_with k templates (read_pins cell)) (first_name cell.args)

-- the library that a text's statements write
abbrev pub library_of : Bool → List Item → Library
library_of whole items =
    record { cells = flat_map (cell_in (known whole items) (templates_of items)) (cells_of items) }
