-- The generated library is read back. Its tree is written out: each word with its place in the text.
use Rattle.std.proofs.Common.{◌≡◌, refl, ap, sym, ◌∙◌, ℕ, Bool, true, false, List, [], ◌∷◌, length}
use Rattle.std.specs.Prelude.{codes}
use Rattle.liberty_syntax.specs.declared.reading.Reading.TheVariants.{Whole}
use Rattle.sta_units.specs.Decimal.{written_of, decimal_of}
use Rattle.sta_units.specs.Numbers.{rounded}
use Rattle.timing_defs.specs.declared.liberty_tree.Lexeme.{Lexeme}
use Rattle.timing_defs.specs.declared.liberty_tree.Tree.{Tree}
use Rattle.timing_defs.specs.declared.liberty_tree.Item.TheVariants as whole
use Rattle.timing_defs.specs.declared.liberty_tree.Item.TheOpen.{Group, Complex, Simple}
use Rattle.timing_defs.specs.declared.liberty_tree.Item.TheViews.{out-Item, out-roll-Item}
use Rattle.sta_text.specs.Bytes.{word_end, closing}
use Rattle.sta_text.specs.Pieces.{liberty_piece}
use Rattle.sta_text.specs.Tokens.{tokens}
use Rattle.liberty_syntax.specs.Grammar.{joined, grow, reading_of}
use Rattle.liberty_cells.specs.Statements.{groups, lists, values}
use Rattle.liberty_cells.specs.Units.{time_of, last_cap}
use Rattle.liberty_cells.specs.Cells.{names_on, timing_typed, timing_in, cap_in}
use Rattle.liberty_cells.specs.Tables.{words_on, filled_on, axes_between, last_flat, last_rows, columns, template_of, place_of}
use Rattle.liberty_cells.specs.Faults.{cap_units_faults, time_faults, load_faults, model_faults, header_faults, doubles, names_faults, too_many, delay_faults, need_faults, sense_faults, related_faults, type_faults, body_faults, reached_faults, typed_faults, timing_faults, load_of_pin_faults, pin_faults, pins_faults, cell_faults, group_faults, statement_faults, faults_in, units_in, library_in, faults_of, units_of_text, library_of_text}
use Rattle.design_maker.specs.Constants.{table_text, clocked_head, test_text, arc_text, input_head, input_text, output_head, tests_text, data_text, register_output, register_text, gate_inputs, gate_output, cell_head, gate_text, library_head, library_text}
use Rattle.design_laws.specs.Constants.{ps_and_ff, generated_library}

out_group : (tree : Tree) → out-Item (whole.Group tree) ≡ Group tree
out_group tree = ap out-Item (sym (whole.rolls-Group tree)) ∙ out-roll-Item (Group tree)

out_complex : (word : Lexeme) (args : List Lexeme) → out-Item (whole.Complex word args) ≡ Complex word args
out_complex word args = ap out-Item (sym (whole.rolls-Complex word args)) ∙ out-roll-Item (Complex word args)

out_simple : (word : Lexeme) (value : List Lexeme) → out-Item (whole.Simple word value) ≡ Simple word value
out_simple word value = ap out-Item (sym (whole.rolls-Simple word value)) ∙ out-roll-Item (Simple word value)

abbrev lex : List ℕ → Bool → ℕ → Lexeme
lex text quoted at = record { text = text; quoted = quoted; offset = at }

unfoldable tree_1 : Tree
tree_1 =
    record {
      word = lex (codes "lu_table_template") false 71;
      args = lex (codes "ld") false 90 ∷ [];
      items =
          whole.Simple (lex (codes "variable_1") false 96) (lex (codes "total_output_net_capacitance") false 109 ∷ [])
          ∷ whole.Complex (lex (codes "index_1") false 139) (lex (codes "0, 10") true 148 ∷ [])
          ∷ [];
    }

unfoldable tree_2 : Tree
tree_2 =
    record {
      word = lex (codes "rise_constraint") false 279;
      args = lex (codes "scalar") false 296 ∷ [];
      items =
          whole.Complex (lex (codes "values") false 306) (lex (codes "15") true 314 ∷ [])
          ∷ [];
    }

unfoldable tree_3 : Tree
tree_3 =
    record {
      word = lex (codes "fall_constraint") false 323;
      args = lex (codes "scalar") false 340 ∷ [];
      items =
          whole.Complex (lex (codes "values") false 350) (lex (codes "15") true 358 ∷ [])
          ∷ [];
    }

unfoldable tree_4 : Tree
tree_4 =
    record {
      word = lex (codes "timing") false 219;
      args = [];
      items =
          whole.Simple (lex (codes "related_pin") false 231) (lex (codes "CK") true 245 ∷ [])
          ∷ whole.Simple (lex (codes "timing_type") false 251) (lex (codes "setup_rising") false 265 ∷ [])
          ∷ whole.Group tree_2
          ∷ whole.Group tree_3
          ∷ [];
    }

unfoldable tree_5 : Tree
tree_5 =
    record {
      word = lex (codes "rise_constraint") false 428;
      args = lex (codes "scalar") false 445 ∷ [];
      items =
          whole.Complex (lex (codes "values") false 455) (lex (codes "3") true 463 ∷ [])
          ∷ [];
    }

unfoldable tree_6 : Tree
tree_6 =
    record {
      word = lex (codes "fall_constraint") false 471;
      args = lex (codes "scalar") false 488 ∷ [];
      items =
          whole.Complex (lex (codes "values") false 498) (lex (codes "3") true 506 ∷ [])
          ∷ [];
    }

unfoldable tree_7 : Tree
tree_7 =
    record {
      word = lex (codes "timing") false 369;
      args = [];
      items =
          whole.Simple (lex (codes "related_pin") false 381) (lex (codes "CK") true 395 ∷ [])
          ∷ whole.Simple (lex (codes "timing_type") false 401) (lex (codes "hold_rising") false 415 ∷ [])
          ∷ whole.Group tree_5
          ∷ whole.Group tree_6
          ∷ [];
    }

unfoldable tree_8 : Tree
tree_8 =
    record {
      word = lex (codes "pin") false 173;
      args = lex (codes "D") false 178 ∷ [];
      items =
          whole.Simple (lex (codes "direction") false 183) (lex (codes "input") false 195 ∷ [])
          ∷ whole.Simple (lex (codes "capacitance") false 202) (lex (codes "1") false 216 ∷ [])
          ∷ whole.Group tree_4
          ∷ whole.Group tree_7
          ∷ [];
    }

unfoldable tree_9 : Tree
tree_9 =
    record {
      word = lex (codes "pin") false 518;
      args = lex (codes "CK") false 523 ∷ [];
      items =
          whole.Simple (lex (codes "direction") false 529) (lex (codes "input") false 541 ∷ [])
          ∷ whole.Simple (lex (codes "capacitance") false 548) (lex (codes "1") false 562 ∷ [])
          ∷ [];
    }

unfoldable tree_10 : Tree
tree_10 =
    record {
      word = lex (codes "cell_rise") false 656;
      args = lex (codes "scalar") false 667 ∷ [];
      items =
          whole.Complex (lex (codes "values") false 677) (lex (codes "20") true 685 ∷ [])
          ∷ [];
    }

unfoldable tree_11 : Tree
tree_11 =
    record {
      word = lex (codes "rise_transition") false 694;
      args = lex (codes "scalar") false 711 ∷ [];
      items =
          whole.Complex (lex (codes "values") false 721) (lex (codes "10") true 729 ∷ [])
          ∷ [];
    }

unfoldable tree_12 : Tree
tree_12 =
    record {
      word = lex (codes "cell_fall") false 738;
      args = lex (codes "scalar") false 749 ∷ [];
      items =
          whole.Complex (lex (codes "values") false 759) (lex (codes "20") true 767 ∷ [])
          ∷ [];
    }

unfoldable tree_13 : Tree
tree_13 =
    record {
      word = lex (codes "fall_transition") false 776;
      args = lex (codes "scalar") false 793 ∷ [];
      items =
          whole.Complex (lex (codes "values") false 803) (lex (codes "10") true 811 ∷ [])
          ∷ [];
    }

unfoldable tree_14 : Tree
tree_14 =
    record {
      word = lex (codes "timing") false 597;
      args = [];
      items =
          whole.Simple (lex (codes "related_pin") false 609) (lex (codes "CK") true 623 ∷ [])
          ∷ whole.Simple (lex (codes "timing_type") false 629) (lex (codes "rising_edge") false 643 ∷ [])
          ∷ whole.Group tree_10
          ∷ whole.Group tree_11
          ∷ whole.Group tree_12
          ∷ whole.Group tree_13
          ∷ [];
    }

unfoldable tree_15 : Tree
tree_15 =
    record {
      word = lex (codes "pin") false 567;
      args = lex (codes "Q") false 572 ∷ [];
      items =
          whole.Simple (lex (codes "direction") false 577) (lex (codes "output") false 589 ∷ [])
          ∷ whole.Group tree_14
          ∷ [];
    }

unfoldable tree_16 : Tree
tree_16 =
    record {
      word = lex (codes "cell") false 160;
      args = lex (codes "DFF") false 166 ∷ [];
      items =
          whole.Group tree_8
          ∷ whole.Group tree_9
          ∷ whole.Group tree_15
          ∷ [];
    }

unfoldable tree_17 : Tree
tree_17 =
    record {
      word = lex (codes "pin") false 843;
      args = lex (codes "A") false 848 ∷ [];
      items =
          whole.Simple (lex (codes "direction") false 853) (lex (codes "input") false 865 ∷ [])
          ∷ whole.Simple (lex (codes "capacitance") false 872) (lex (codes "1") false 886 ∷ [])
          ∷ [];
    }

unfoldable tree_18 : Tree
tree_18 =
    record {
      word = lex (codes "pin") false 891;
      args = lex (codes "B") false 896 ∷ [];
      items =
          whole.Simple (lex (codes "direction") false 901) (lex (codes "input") false 913 ∷ [])
          ∷ whole.Simple (lex (codes "capacitance") false 920) (lex (codes "1") false 934 ∷ [])
          ∷ [];
    }

unfoldable tree_19 : Tree
tree_19 =
    record {
      word = lex (codes "cell_rise") false 1033;
      args = lex (codes "ld") false 1044 ∷ [];
      items =
          whole.Complex (lex (codes "values") false 1050) (lex (codes "10, 30") true 1058 ∷ [])
          ∷ [];
    }

unfoldable tree_20 : Tree
tree_20 =
    record {
      word = lex (codes "rise_transition") false 1071;
      args = lex (codes "ld") false 1088 ∷ [];
      items =
          whole.Complex (lex (codes "values") false 1094) (lex (codes "5, 25") true 1102 ∷ [])
          ∷ [];
    }

unfoldable tree_21 : Tree
tree_21 =
    record {
      word = lex (codes "cell_fall") false 1114;
      args = lex (codes "ld") false 1125 ∷ [];
      items =
          whole.Complex (lex (codes "values") false 1131) (lex (codes "10, 30") true 1139 ∷ [])
          ∷ [];
    }

unfoldable tree_22 : Tree
tree_22 =
    record {
      word = lex (codes "fall_transition") false 1152;
      args = lex (codes "ld") false 1169 ∷ [];
      items =
          whole.Complex (lex (codes "values") false 1175) (lex (codes "5, 25") true 1183 ∷ [])
          ∷ [];
    }

unfoldable tree_23 : Tree
tree_23 =
    record {
      word = lex (codes "timing") false 969;
      args = [];
      items =
          whole.Simple (lex (codes "related_pin") false 981) (lex (codes "A B") true 995 ∷ [])
          ∷ whole.Simple (lex (codes "timing_sense") false 1002) (lex (codes "positive_unate") false 1017 ∷ [])
          ∷ whole.Group tree_19
          ∷ whole.Group tree_20
          ∷ whole.Group tree_21
          ∷ whole.Group tree_22
          ∷ [];
    }

unfoldable tree_24 : Tree
tree_24 =
    record {
      word = lex (codes "pin") false 939;
      args = lex (codes "Z") false 944 ∷ [];
      items =
          whole.Simple (lex (codes "direction") false 949) (lex (codes "output") false 961 ∷ [])
          ∷ whole.Group tree_23
          ∷ [];
    }

unfoldable tree_25 : Tree
tree_25 =
    record {
      word = lex (codes "cell") false 826;
      args = lex (codes "AND2_X1") false 832 ∷ [];
      items =
          whole.Group tree_17
          ∷ whole.Group tree_18
          ∷ whole.Group tree_24
          ∷ [];
    }

unfoldable tree_26 : Tree
tree_26 =
    record {
      word = lex (codes "pin") false 1218;
      args = lex (codes "A") false 1223 ∷ [];
      items =
          whole.Simple (lex (codes "direction") false 1228) (lex (codes "input") false 1240 ∷ [])
          ∷ whole.Simple (lex (codes "capacitance") false 1247) (lex (codes "2") false 1261 ∷ [])
          ∷ [];
    }

unfoldable tree_27 : Tree
tree_27 =
    record {
      word = lex (codes "pin") false 1266;
      args = lex (codes "B") false 1271 ∷ [];
      items =
          whole.Simple (lex (codes "direction") false 1276) (lex (codes "input") false 1288 ∷ [])
          ∷ whole.Simple (lex (codes "capacitance") false 1295) (lex (codes "2") false 1309 ∷ [])
          ∷ [];
    }

unfoldable tree_28 : Tree
tree_28 =
    record {
      word = lex (codes "cell_rise") false 1408;
      args = lex (codes "ld") false 1419 ∷ [];
      items =
          whole.Complex (lex (codes "values") false 1425) (lex (codes "8, 18") true 1433 ∷ [])
          ∷ [];
    }

unfoldable tree_29 : Tree
tree_29 =
    record {
      word = lex (codes "rise_transition") false 1445;
      args = lex (codes "ld") false 1462 ∷ [];
      items =
          whole.Complex (lex (codes "values") false 1468) (lex (codes "4, 14") true 1476 ∷ [])
          ∷ [];
    }

unfoldable tree_30 : Tree
tree_30 =
    record {
      word = lex (codes "cell_fall") false 1488;
      args = lex (codes "ld") false 1499 ∷ [];
      items =
          whole.Complex (lex (codes "values") false 1505) (lex (codes "8, 18") true 1513 ∷ [])
          ∷ [];
    }

unfoldable tree_31 : Tree
tree_31 =
    record {
      word = lex (codes "fall_transition") false 1525;
      args = lex (codes "ld") false 1542 ∷ [];
      items =
          whole.Complex (lex (codes "values") false 1548) (lex (codes "4, 14") true 1556 ∷ [])
          ∷ [];
    }

unfoldable tree_32 : Tree
tree_32 =
    record {
      word = lex (codes "timing") false 1344;
      args = [];
      items =
          whole.Simple (lex (codes "related_pin") false 1356) (lex (codes "A B") true 1370 ∷ [])
          ∷ whole.Simple (lex (codes "timing_sense") false 1377) (lex (codes "positive_unate") false 1392 ∷ [])
          ∷ whole.Group tree_28
          ∷ whole.Group tree_29
          ∷ whole.Group tree_30
          ∷ whole.Group tree_31
          ∷ [];
    }

unfoldable tree_33 : Tree
tree_33 =
    record {
      word = lex (codes "pin") false 1314;
      args = lex (codes "Z") false 1319 ∷ [];
      items =
          whole.Simple (lex (codes "direction") false 1324) (lex (codes "output") false 1336 ∷ [])
          ∷ whole.Group tree_32
          ∷ [];
    }

unfoldable tree_34 : Tree
tree_34 =
    record {
      word = lex (codes "cell") false 1201;
      args = lex (codes "AND2_X2") false 1207 ∷ [];
      items =
          whole.Group tree_26
          ∷ whole.Group tree_27
          ∷ whole.Group tree_33
          ∷ [];
    }

unfoldable tree_35 : Tree
tree_35 =
    record {
      word = lex (codes "library") false 0;
      args = lex (codes "generated") false 9 ∷ [];
      items =
          whole.Simple (lex (codes "time_unit") false 22) (lex (codes "1ps") true 34 ∷ [])
          ∷ whole.Complex (lex (codes "capacitive_load_unit") false 41) (lex (codes "1") false 63 ∷ lex (codes "ff") false 66 ∷ [])
          ∷ whole.Group tree_1
          ∷ whole.Group tree_16
          ∷ whole.Group tree_25
          ∷ whole.Group tree_34
          ∷ [];
    }

tree_is : reading_of library_text ≡ Whole tree_35
unfolding tokens liberty_piece word_end closing joined grow table_text clocked_head test_text arc_text input_head input_text output_head tests_text data_text register_output register_text gate_inputs gate_output cell_head gate_text library_head library_text tree_1 tree_2 tree_3 tree_4 tree_5 tree_6 tree_7 tree_8 tree_9 tree_10 tree_11 tree_12 tree_13 tree_14 tree_15 tree_16 tree_17 tree_18 tree_19 tree_20 tree_21 tree_22 tree_23 tree_24 tree_25 tree_26 tree_27 tree_28 tree_29 tree_30 tree_31 tree_32 tree_33 tree_34 tree_35
tree_is = refl

pub units_back : units_of_text library_text ≡ ps_and_ff
unfolding groups lists values time_of last_cap written_of decimal_of rounded names_on timing_typed timing_in cap_in words_on filled_on axes_between last_flat last_rows columns template_of place_of tree_1 tree_2 tree_3 tree_4 tree_5 tree_6 tree_7 tree_8 tree_9 tree_10 tree_11 tree_12 tree_13 tree_14 tree_15 tree_16 tree_17 tree_18 tree_19 tree_20 tree_21 tree_22 tree_23 tree_24 tree_25 tree_26 tree_27 tree_28 tree_29 tree_30 tree_31 tree_32 tree_33 tree_34 tree_35
units_back = ap units_in tree_is ∙ simp (out_group, out_complex, out_simple) refl

pub library_back : library_of_text library_text ≡ generated_library
unfolding groups lists values time_of last_cap written_of decimal_of rounded names_on timing_typed timing_in cap_in words_on filled_on axes_between last_flat last_rows columns template_of place_of tree_1 tree_2 tree_3 tree_4 tree_5 tree_6 tree_7 tree_8 tree_9 tree_10 tree_11 tree_12 tree_13 tree_14 tree_15 tree_16 tree_17 tree_18 tree_19 tree_20 tree_21 tree_22 tree_23 tree_24 tree_25 tree_26 tree_27 tree_28 tree_29 tree_30 tree_31 tree_32 tree_33 tree_34 tree_35
library_back = ap library_in tree_is ∙ simp (out_group, out_complex, out_simple) refl

pub no_library_faults : faults_of library_text ≡ []
unfolding groups lists values time_of last_cap written_of decimal_of rounded names_on timing_typed timing_in cap_in words_on filled_on axes_between last_flat last_rows columns template_of place_of cap_units_faults time_faults load_faults model_faults header_faults doubles names_faults too_many delay_faults need_faults sense_faults related_faults type_faults body_faults reached_faults typed_faults timing_faults load_of_pin_faults pin_faults pins_faults cell_faults group_faults statement_faults tree_1 tree_2 tree_3 tree_4 tree_5 tree_6 tree_7 tree_8 tree_9 tree_10 tree_11 tree_12 tree_13 tree_14 tree_15 tree_16 tree_17 tree_18 tree_19 tree_20 tree_21 tree_22 tree_23 tree_24 tree_25 tree_26 tree_27 tree_28 tree_29 tree_30 tree_31 tree_32 tree_33 tree_34 tree_35
no_library_faults = ap (λ r. faults_in (length library_text) r) tree_is ∙ simp (out_group, out_complex, out_simple) refl
