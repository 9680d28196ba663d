-- How netlists and scripts are written.
use Rattle.std.specs.Prelude.{ℕ, List, [], ◌∷◌, ◌++◌, Option, Some, None, codes}
use Rattle.std.specs.List.{flat_map}
use Rattle.timing_defs.specs.declared.netlist.Conn.{Conn}
use Rattle.timing_defs.specs.declared.netlist.Inst.{Inst}
use Rattle.timing_defs.specs.declared.edits.Edit.{Edit}
use Rattle.timing_defs.specs.declared.reports.Query.TheVariants.{Wns}
use Rattle.timing_defs.specs.declared.scripts.Command.{Command}
use Rattle.timing_defs.specs.declared.scripts.Command.TheVariants.{Ask, Change}
use Rattle.timing_defs.specs.Output.{line, word, kind_text, edit_text}

-- the net of a connection; nothing where the pin is open
abbrev pub net_text : Option (List ℕ) → List ℕ
net_text None = []
net_text (Some net) = net

-- a connection by name, as .A(n)
unfoldable pub conn_text : Conn → List ℕ
conn_text conn = 46 ∷ (conn.pin ++ (40 ∷ (net_text conn.net ++ (41 ∷ []))))

-- connections behind another one
abbrev pub more_conns : List Conn → List ℕ
more_conns [] = []
more_conns (conn ∷ conns) = 44 ∷ 32 ∷ (conn_text conn ++ more_conns conns)

abbrev pub conns_text : List Conn → List ℕ
conns_text [] = []
conns_text (conn ∷ conns) = conn_text conn ++ more_conns conns

-- an instance, a line: CELL NAME (.PIN(NET), ..);
unfoldable pub inst_text : Inst → List ℕ
inst_text inst = inst.cell ++ (32 ∷ (inst.name ++ (32 ∷ 40 ∷ (conns_text inst.conns ++ (41 ∷ 59 ∷ 10 ∷ [])))))

unfoldable pub insts_text : List Inst → List ℕ
insts_text [] = []
insts_text (inst ∷ insts) = inst_text inst ++ insts_text insts

-- a netlist with the inputs clk and d
abbrev pub module_head : List ℕ
module_head = codes "module generated (clk, d);\ninput clk, d;\n"

unfoldable pub module_text : List Inst → List ℕ
module_text insts = module_head ++ (insts_text insts ++ codes "endmodule\n")

-- the commands of a script, a line each: an edit alone, or the question of the least slack
unfoldable pub commands_text : List Command → List ℕ
commands_text [] = []
commands_text (Change eco ∷ commands) = flat_map (λ (edit : Edit). line (edit_text edit)) eco.edits ++ commands_text commands
commands_text (Ask (Wns kind) ∷ commands) = line (codes "report_wns" ++ word (kind_text kind)) ++ commands_text commands
commands_text (command ∷ commands) = commands_text commands
