-- Look-up tables and their templates (Liberty Reference Manual, "lu_table_template", "values").
use Rattle.std.specs.Prelude.{ℕ, zero, suc, ◌+◌, List, [], ◌∷◌, ◌++◌, Bool, true, false, ◌==◌, ◌&&◌, ◌||◌, not, nat_le, codes, map, length, get_or, ℤ, pos, Option, Some, None, option_map, option_and_then, is_some, Result, Ok, Err, if◌then◌else◌}
use Rattle.std.specs.List.{list_all, list_any, flat_map}
use Rattle.std.specs.Str.{bytes_eq}
use Rattle.sta_units.specs.declared.units.Unit.{Unit}
use Rattle.timing_defs.specs.Lookup.{is_rising}
use Rattle.timing_defs.specs.declared.codes.Code.{Code}
use Rattle.timing_defs.specs.declared.codes.Code.TheVariants.{LibertyBadTable, LibertyIndexNotRising}
use Rattle.timing_defs.specs.declared.library.Table.{Table}
use Rattle.timing_defs.specs.declared.liberty_tree.Lexeme.{Lexeme}
use Rattle.timing_defs.specs.declared.liberty_tree.Tree.{Tree}
use Rattle.timing_defs.specs.declared.liberty_tree.Item.{Item}
use Rattle.sta_text.specs.Bytes.{is_white}
use Rattle.liberty_cells.specs.declared.library_units.Known.{Known}
use Rattle.liberty_cells.specs.declared.axes.Purpose.{Purpose}
use Rattle.liberty_cells.specs.declared.axes.Purpose.TheVariants.{Delay, Constraint}
use Rattle.liberty_cells.specs.declared.axes.Form.{Form}
use Rattle.liberty_cells.specs.declared.axes.Side.{Side}
use Rattle.liberty_cells.specs.declared.axes.Side.TheVariants.{Xs, Ys}
use Rattle.liberty_cells.specs.declared.axes.Axes.{Axes}
use Rattle.liberty_cells.specs.declared.axes.Axes.TheVariants.{One, Two}
use Rattle.liberty_cells.specs.Statements.{lists, values, last, one_text}
use Rattle.liberty_cells.specs.Units.{is_number, number_or_zero}

-- white space separates words, and beside it a comma (44) separates numbers
abbrev pub separates : Bool → ℕ → Bool
separates commas b = is_white b || (commas && b == 44)

abbrev pub joins : Bool → ℕ → Bool
joins commas b = not (separates commas b)

abbrev pub begins_word : Bool → List ℕ → Bool
begins_word commas [] = true
begins_word commas (b ∷ bs) = joins commas b

abbrev pub word_then : List ℕ → List (List ℕ) → List (List ℕ)
word_then [] ws = ws
word_then (c ∷ w) ws = (c ∷ w) ∷ ws

-- the words of a text, of which `w` is the begin of one
unfoldable pub words_on : Bool → List ℕ → List ℕ → List (List ℕ)
words_on commas w [] = word_then w []
words_on commas w (b ∷ bs) =
    (if separates commas b then word_then w (words_on commas [] bs) else words_on commas (w ++ b ∷ []) bs)

abbrev pub words : List ℕ → List (List ℕ)
words text = words_on false [] text

-- the numbers of a string, separated by commas or white space
abbrev pub numbers : List ℕ → List (List ℕ)
numbers text = words_on true [] text

abbrev pub is_comma : ℕ → Bool
is_comma b = b == 44

-- before and behind each comma something stands; `seen` where it does already behind the last one
unfoldable pub filled_on : Bool → List ℕ → Bool
filled_on seen [] = seen
filled_on seen (b ∷ bs) = (if is_comma b then seen && filled_on false bs else filled_on (seen || not (is_white b)) bs)

-- beside a comma no number is missing
abbrev pub has_all : List ℕ → Bool
has_all text = not (list_any is_comma text) || filled_on false text

-- a string of decimals in range
abbrev pub is_row : Option Unit → List ℕ → Bool
is_row u text = has_all text && list_all (is_number u) (numbers text)

abbrev pub row : Option Unit → List ℕ → List ℤ
row u text = map (number_or_zero u) (numbers text)

abbrev pub all_rows : Option Unit → List Lexeme → Bool
all_rows u args = list_all (λ (x : Lexeme). is_row u x.text) args

-- the numbers of all strings in order
abbrev pub flat : Option Unit → List Lexeme → List ℤ
flat u args = flat_map (λ (x : Lexeme). row u x.text) args

-- the variables of a table's axes
abbrev pub over_xs : Purpose → List ℕ
over_xs Delay = codes "input_net_transition"
over_xs Constraint = codes "related_pin_transition"

abbrev pub over_ys : Purpose → List ℕ
over_ys Delay = codes "total_output_net_capacitance"
over_ys Constraint = codes "constrained_pin_transition"

-- the unit of an axis
abbrev pub unit_of : Form → Side → Option Unit
unit_of form Xs = form.known.time
unit_of form Ys = ys_unit form.purpose form.known
  where
    ys_unit : Purpose → Known → Option Unit
    ys_unit Delay known = known.cap
    ys_unit Constraint known = known.time

abbrev pub side_named : Purpose → List ℕ → Option Side
side_named purpose name =
    (if bytes_eq name (over_xs purpose) then Some Xs else (if bytes_eq name (over_ys purpose) then Some Ys else None))

abbrev pub side : Purpose → List Lexeme → Option Side
side purpose value = option_and_then (side_named purpose) (one_text value)

abbrev pub is_side : Purpose → List Lexeme → Bool
is_side purpose value = is_some (side purpose value)

abbrev pub last_side : Purpose → List (List Lexeme) → Option Side
last_side purpose found = option_and_then (side purpose) (last found)

abbrev pub axes_with : Option Side → Option Side → Option Axes
axes_with None second = None
axes_with (Some s) None = Some (One s)
axes_with (Some Xs) (Some Xs) = None
axes_with (Some Ys) (Some Ys) = None
axes_with (Some Xs) (Some Ys) = Some (Two Xs Ys)
axes_with (Some Ys) (Some Xs) = Some (Two Ys Xs)

-- the axes of a first and a second variable; none where one is another or both are the same
unfoldable pub axes_between : Purpose → List (List Lexeme) → List (List Lexeme) → Option Axes
axes_between purpose first second =
    (if list_all (is_side purpose) first && list_all (is_side purpose) second
    then axes_with (last_side purpose first) (last_side purpose second) else None)

abbrev pub has_third : List Item → Bool
has_third template = not (length (values (codes "variable_3") template) == 0)

abbrev pub two_axes : Purpose → List Item → Option Axes
two_axes purpose template =
    axes_between purpose (values (codes "variable_1") template) (values (codes "variable_2") template)

-- a template's axes in the order of its indexes; it has no third
abbrev pub axes_of : Purpose → List Item → Option Axes
axes_of purpose template = (if has_third template then None else two_axes purpose template)

abbrev pub or_else : List (List Lexeme) → List (List Lexeme) → List (List Lexeme)
or_else [] other = other
or_else (x ∷ xs) other = x ∷ xs

-- the table's own index, or the template's
abbrev pub index : List ℕ → List Item → List Item → List (List Lexeme)
index name table template = or_else (lists name table) (lists name template)

-- the numbers of the last list
unfoldable pub last_flat : Option Unit → List ℤ → List (List Lexeme) → List ℤ
last_flat u numbers [] = numbers
last_flat u numbers (args ∷ more) = last_flat u (flat u args) more

abbrev pub axis : Option Unit → List (List Lexeme) → List ℤ
axis u found = last_flat u [] found

-- an index has 1 to 64 decimals in range
abbrev pub is_index : Option Unit → List Lexeme → Bool
is_index u args = all_rows u args && nat_le 1 (length (flat u args)) && nat_le (length (flat u args)) 64

-- an index rises strictly, where its unit is known
abbrev pub rises : Option Unit → List Lexeme → Bool
rises None args = true
rises (Some u) args = not (is_index (Some u) args) || is_rising (flat (Some u) args)

-- the list stands at least once, and each passes
abbrev pub stand_all : (List Lexeme → Bool) → List (List Lexeme) → Bool
stand_all test found = not (length found == 0) && list_all test found

abbrev pub is_axis : Option Unit → List (List Lexeme) → Bool
is_axis u found = stand_all (is_index u) found

abbrev pub all_rise : Option Unit → List (List Lexeme) → Bool
all_rise u found = list_all (rises u) found

-- so many values
abbrev pub has_values : Option Unit → ℕ → List Lexeme → Bool
has_values u n args = all_rows u args && (length (flat u args) == n)

-- a row of so many values
abbrev pub is_row_of : Option Unit → ℕ → Lexeme → Bool
is_row_of u n x = is_row u x.text && (length (row u x.text) == n)

-- so many rows of so many values each
abbrev pub has_rows : Option Unit → ℕ → ℕ → List Lexeme → Bool
has_rows u n columns args = (length args == n) && list_all (is_row_of u columns) args

abbrev pub rows_of : Option Unit → List Lexeme → List (List ℤ)
rows_of u args = map (λ (x : Lexeme). row u x.text) args

-- the rows of the last list
unfoldable pub last_rows : Option Unit → List (List ℤ) → List (List Lexeme) → List (List ℤ)
last_rows u rows [] = rows
last_rows u rows (args ∷ more) = last_rows u (rows_of u args) more

abbrev pub flatten : List (List ℤ) → List ℤ
flatten rows = flat_map (λ (r : List ℤ). r) rows

abbrev pub column : ℕ → List (List ℤ) → List ℤ
column c rows = map (λ (r : List ℤ). get_or r c (pos 0)) rows

-- so many columns of rows, from one on
unfoldable pub columns : ℕ → ℕ → List (List ℤ) → List ℤ
columns c zero rows = []
columns c (suc n) rows = column c rows ++ columns (c + 1) n rows

-- an axis that the table lacks
abbrev pub lone : List ℤ
lone = pos 0 ∷ []

abbrev pub one_way : Side → List ℤ → List ℤ → Table
one_way Xs index values = record { xs = index; ys = lone; vals = values }
one_way Ys index values = record { xs = lone; ys = index; vals = values }

-- rows of values go with the first index; a table has them row by row of xs
abbrev pub two_way : Side → List ℤ → List ℤ → List (List ℤ) → Table
two_way Xs first second rows = record { xs = first; ys = second; vals = flatten rows }
two_way Ys first second rows = record { xs = second; ys = first; vals = columns 0 (length second) rows }

-- a table, or the code of its fault
abbrev pub table_or : Bool → Bool → Table → Result Table Code
table_or fits rising table =
    (if fits then (if rising then Ok table else Err LibertyIndexNotRising) else Err LibertyBadTable)

-- a table of one index and its values
abbrev pub table_of_one : Form → Side → List (List Lexeme) → List (List Lexeme) → Result Table Code
table_of_one form s first found =
    table_or
    (is_axis (unit_of form s) first
    && stand_all (has_values form.known.time (length (axis (unit_of form s) first))) found)
    (all_rise (unit_of form s) first)
    (one_way s (axis (unit_of form s) first) (last_flat form.known.time [] found))

-- a table of two indexes and its rows of values
abbrev pub table_of_two : Form → Side → Side → List (List Lexeme) → List (List Lexeme) → List (List Lexeme) → Result Table Code
table_of_two form s r first second found =
    table_or
    (is_axis (unit_of form s) first && is_axis (unit_of form r) second
    && stand_all
    (has_rows form.known.time (length (axis (unit_of form s) first)) (length (axis (unit_of form r) second))) found)
    (all_rise (unit_of form s) first && all_rise (unit_of form r) second)
    (two_way s (axis (unit_of form s) first) (axis (unit_of form r) second) (last_rows form.known.time [] found))

abbrev pub table_at : Form → Axes → List (List Lexeme) → List (List Lexeme) → List (List Lexeme) → Result Table Code
table_at form (One s) first second found = table_of_one form s first found
table_at form (Two s r) first second found = table_of_two form s r first second found

abbrev pub table_with : Form → List Item → List Item → Option Axes → Result Table Code
table_with form table template None = Err LibertyBadTable
table_with form table template (Some axes) =
    table_at form axes (index (codes "index_1") table template) (index (codes "index_2") table template)
    (lists (codes "values") table)

-- a table in the form of its template
abbrev pub table_in : Form → List Item → List Item → Result Table Code
table_in form table template = table_with form table template (axes_of form.purpose template)

-- a table of the template `scalar` has one value
abbrev pub scalar_in : Form → List Item → Result Table Code
scalar_in form table =
    table_or (stand_all (has_values form.known.time 1) (lists (codes "values") table)) true
    (record { xs = lone; ys = lone; vals = last_flat form.known.time [] (lists (codes "values") table) })

-- a group is called by its first argument
abbrev pub called : List ℕ → List Lexeme → Bool
called name [] = false
called name (x ∷ xs) = bytes_eq name x.text

-- the statements of the first template of a name
unfoldable pub template_of : List ℕ → List Tree → Option (List Item)
template_of name [] = None
template_of name (t ∷ ts) = (if called name t.args then Some t.items else template_of name ts)

-- the table of a template's name, or the code of its fault; none where there is no such template
abbrev pub read_table : Form → List Tree → List ℕ → List Item → Option (Result Table Code)
read_table form templates name table =
    (if bytes_eq name (codes "scalar") then Some (scalar_in form table) else
    option_map (table_in form table) (template_of name templates))

-- the place of the first template of a name, counted on from one
unfoldable pub place_of : ℕ → List ℕ → List Tree → Option ℕ
place_of at name [] = None
place_of at name (t ∷ ts) = (if called name t.args then Some at else place_of (at + 1) name ts)
