-- The scripts of the four sessions over a generated netlist: session k + 1 resizes gates of lane k (own).
use Rattle.std.specs.Prelude.{ℕ, zero, suc, ◌+◌, ◌/◌, ◌%◌, ◌^◌, List, [], ◌∷◌, ◌++◌, ◌==◌, if◌then◌else◌, codes, decimal}
use Rattle.timing_defs.specs.declared.kinds.Kind.TheVariants.{Setup}
use Rattle.timing_defs.specs.declared.edits.Edit.TheVariants.{Repower}
use Rattle.timing_defs.specs.declared.reports.Query.TheVariants.{Wns}
use Rattle.timing_defs.specs.declared.scripts.Command.{Command}
use Rattle.timing_defs.specs.declared.scripts.Command.TheVariants.{Ask, Change}
use Rattle.timing_defs.specs.declared.scripts.Script.{Script}
use Rattle.design_maker.specs.Draws.{drawn, drawn_on, chosen}
use Rattle.design_maker.specs.Insts.{gate_name, behind_lanes}

-- one of the two cells of a gate
unfoldable pub drawn_cell : ℕ → List ℕ
drawn_cell x = (if x / 2 ^ 16 % 2 == 1 then codes "AND2_X2" else codes "AND2_X1")

-- a drawn gate of a lane becomes a drawn cell
abbrev pub resize : ℕ → ℕ → ℕ → Command
resize lane gates x = Change (record { edits = Repower (gate_name lane (1 + chosen x gates)) (drawn_cell x) ∷ [] })

-- that command as it is written, a line
unfoldable pub resize_text : ℕ → ℕ → ℕ → List ℕ
resize_text lane gates x =
    codes "repower_gate g" ++ ((decimal lane ++ (95 ∷ decimal (1 + chosen x gates))) ++ (codes " " ++ (drawn_cell x ++ codes "\n")))

-- so many edits, and a question behind each
unfoldable pub commands_from : ℕ → ℕ → ℕ → ℕ → List Command
commands_from lane gates zero x = []
commands_from lane gates (suc more) x = resize lane gates (drawn x) ∷ Ask (Wns Setup) ∷ commands_from lane gates more (drawn x)

-- the scripts of so many more lanes
unfoldable pub scripts_from : ℕ → ℕ → ℕ → ℕ → ℕ → List Script
scripts_from lane zero gates edits x = []
scripts_from lane (suc more) gates edits x =
    record { commands = commands_from lane gates edits x } ∷ scripts_from (lane + 1) more gates edits (drawn_on edits x)

-- the scripts over a netlist of so many gates with so many edits in all; their draws are behind those of the netlist
abbrev pub scripts_of : ℕ → ℕ → ℕ → List Script
scripts_of start gates edits = scripts_from 0 4 (gates / 4) (edits / 4) (behind_lanes 4 (gates / 4) start)
