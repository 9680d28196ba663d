-- The library and the constraints of each generated design, in ps and fF: a register and two sizes of a gate (own).
use Rattle.std.specs.Prelude.{ℕ, List, ◌++◌, codes}

-- a table of one template, on a line
unfoldable pub table_text : List ℕ → List ℕ → List ℕ → List ℕ
table_text name template values =
    name ++ (codes " (" ++ (template ++ (codes ") { values (\"" ++ (values ++ codes "\"); }\n"))))

-- how a group of arcs from CK, or of times against it, begins
unfoldable pub clocked_head : List ℕ → List ℕ
clocked_head sort = codes "timing () { related_pin : \"CK\"; timing_type : " ++ (sort ++ codes ";\n")

-- a time of D, the same for both transitions
unfoldable pub test_text : List ℕ → List ℕ → List ℕ
test_text sort time =
    clocked_head sort ++ (table_text (codes "rise_constraint") (codes "scalar") time
    ++ (table_text (codes "fall_constraint") (codes "scalar") time ++ codes "}\n"))

-- the four tables of an arc, the same for both transitions
unfoldable pub arc_text : List ℕ → List ℕ → List ℕ → List ℕ
arc_text template delay slew =
    table_text (codes "cell_rise") template delay ++ (table_text (codes "rise_transition") template slew
    ++ (table_text (codes "cell_fall") template delay ++ table_text (codes "fall_transition") template slew))

-- an input of so many fF
unfoldable pub input_head : List ℕ → List ℕ → List ℕ
input_head pin cap = codes "pin (" ++ (pin ++ (codes ") { direction : input; capacitance : " ++ (cap ++ codes ";\n")))

unfoldable pub input_text : List ℕ → List ℕ → List ℕ
input_text pin cap = input_head pin cap ++ codes "}\n"

unfoldable pub output_head : List ℕ → List ℕ
output_head pin = codes "pin (" ++ (pin ++ codes ") { direction : output;\n")

-- the tests of the register
unfoldable pub tests_text : List ℕ
tests_text = test_text (codes "setup_rising") (codes "15") ++ test_text (codes "hold_rising") (codes "3")

-- the pin D of the register
unfoldable pub data_text : List ℕ
data_text = input_head (codes "D") (codes "1") ++ (tests_text ++ codes "}\n")

-- the pin Q of the register, with its arc
unfoldable pub register_output : List ℕ
register_output =
    output_head (codes "Q") ++ (clocked_head (codes "rising_edge") ++ (arc_text (codes "scalar") (codes "20") (codes "10") ++ codes "}\n}\n"))

unfoldable pub register_text : List ℕ
register_text =
    codes "cell (DFF) {\n" ++ (data_text ++ (input_text (codes "CK") (codes "1") ++ (register_output ++ codes "}\n")))

-- the inputs of a gate
unfoldable pub gate_inputs : List ℕ → List ℕ
gate_inputs cap = input_text (codes "A") cap ++ input_text (codes "B") cap

-- the output of a gate, with delays and slews at loads of 0 and 10 fF
unfoldable pub gate_output : List ℕ → List ℕ → List ℕ
gate_output delay slew =
    output_head (codes "Z") ++ (codes "timing () { related_pin : \"A B\"; timing_sense : positive_unate;\n"
    ++ (arc_text (codes "ld") delay slew ++ codes "}\n}\n"))

unfoldable pub cell_head : List ℕ → List ℕ
cell_head cell = codes "cell (" ++ (cell ++ codes ") {\n")

unfoldable pub gate_text : List ℕ → List ℕ → List ℕ → List ℕ → List ℕ
gate_text cell cap delay slew = cell_head cell ++ (gate_inputs cap ++ (gate_output delay slew ++ codes "}\n"))

-- units and the template of tables over loads
unfoldable pub library_head : List ℕ
library_head =
    codes "library (generated) {\ntime_unit : \"1ps\"; capacitive_load_unit (1, ff);\nlu_table_template (ld) { variable_1 : total_output_net_capacitance; index_1 (\"0, 10\"); }\n"

unfoldable pub library_text : List ℕ
library_text =
    library_head ++ (register_text ++ (gate_text (codes "AND2_X1") (codes "1") (codes "10, 30") (codes "5, 25")
    ++ (gate_text (codes "AND2_X2") (codes "2") (codes "8, 18") (codes "4, 14") ++ codes "}\n")))

-- a clock of 1,000 ps, and an input delay of 10 ps
abbrev pub constraints_text : List ℕ
constraints_text =
    codes "create_clock -name clk -period 1000 [get_ports clk]\nset_input_delay 10 -clock clk [get_ports d]\n"
