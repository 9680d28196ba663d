-- The values of the texts that all generated designs have in common.
use Rattle.std.specs.Prelude.{ℕ, List, [], ◌∷◌, pos, Some, codes}
use Rattle.timing_defs.specs.declared.kinds.Split.{Split}
use Rattle.timing_defs.specs.declared.kinds.Split.TheVariants.{Early, Late}
use Rattle.timing_defs.specs.declared.kinds.Tran.{Tran}
use Rattle.timing_defs.specs.declared.kinds.Tran.TheVariants.{Rise, Fall}
use Rattle.timing_defs.specs.declared.kinds.Dir.{Dir}
use Rattle.timing_defs.specs.declared.kinds.Dir.TheVariants.{Input, Output}
use Rattle.timing_defs.specs.declared.kinds.Kind.{Kind}
use Rattle.timing_defs.specs.declared.kinds.Kind.TheVariants.{Setup, Hold}
use Rattle.timing_defs.specs.declared.kinds.ArcKind.TheVariants.{Comb, Edge}
use Rattle.timing_defs.specs.declared.library.Units.{Units}
use Rattle.timing_defs.specs.declared.library.Table.{Table}
use Rattle.timing_defs.specs.declared.library.CellPin.{CellPin}
use Rattle.timing_defs.specs.declared.library.CellArc.{CellArc}
use Rattle.timing_defs.specs.declared.library.CellTest.{CellTest}
use Rattle.timing_defs.specs.declared.library.Cell.{Cell}
use Rattle.timing_defs.specs.declared.library.Library.{Library}
use Rattle.timing_defs.specs.declared.constraints.PortDelay.{PortDelay}
use Rattle.timing_defs.specs.declared.constraints.Constraints.{Constraints}
use Rattle.timing_defs.specs.Documents.{no_derates}

-- ps and fF
abbrev pub ps_and_ff : Units
ps_and_ff = record { time = record { ten = pos 3 }; cap = record { ten = pos 3 } }

-- 10 ps behind the rise of the clock
abbrev pub input_delay : Split → Tran → PortDelay
input_delay split tran = record { port = codes "d"; split = split; tran = tran; clock = 0; delay = record { 0 = pos 10000 } }

-- a clock of 1,000 ps on clk, and the delays of d
abbrev pub generated_constraints : Constraints
generated_constraints =
    record {
      clocks =
          record {
            name = codes "clk";
            port = Some (codes "clk");
            period = record { 0 = pos 1000000 };
            rise = record { 0 = pos 0 };
            fall = record { 0 = pos 500000 };
            unc_setup = record { 0 = pos 0 };
            unc_hold = record { 0 = pos 0 };
          } ∷ [];
      inputs = input_delay Early Rise ∷ input_delay Early Fall ∷ input_delay Late Rise ∷ input_delay Late Fall ∷ [];
      outputs = [];
      slews = [];
      loads = [];
      exceptions = [];
      derates = no_derates;
    }

-- a table of one value, and one of values at loads of 0 and 10 fF, in fs
abbrev pub scalar_table : ℕ → Table
scalar_table time = record { xs = pos 0 ∷ []; ys = pos 0 ∷ []; vals = pos time ∷ [] }

abbrev pub load_table : ℕ → ℕ → Table
load_table low high = record { xs = pos 0 ∷ []; ys = pos 0 ∷ pos 10000 ∷ []; vals = pos low ∷ pos high ∷ [] }

abbrev pub cell_pin : List ℕ → Dir → ℕ → CellPin
cell_pin name dir cap = record { name = name; dir = dir; cap = record { 0 = pos cap } }

-- from the rising edge of CK to a transition of Q
abbrev pub register_arc : Tran → CellArc
register_arc tran =
    record { from = codes "CK"; from_tran = Rise; to = codes "Q"; to_tran = tran; kind = Edge; delay = scalar_table 20000; slew = scalar_table 10000 }

abbrev pub register_test : Kind → ℕ → Tran → CellTest
register_test kind time tran =
    record { pin = codes "D"; tran = tran; clock = codes "CK"; active = Rise; kind = kind; need = scalar_table time }

abbrev pub register_of : Cell
register_of =
    record {
      name = codes "DFF";
      pins = cell_pin (codes "D") Input 1000 ∷ cell_pin (codes "CK") Input 1000 ∷ cell_pin (codes "Q") Output 0 ∷ [];
      arcs = register_arc Rise ∷ register_arc Fall ∷ [];
      tests = register_test Setup 15000 Rise ∷ register_test Setup 15000 Fall ∷ register_test Hold 3000 Rise ∷ register_test Hold 3000 Fall ∷ [];
    }

-- a gate by its name, the capacitance of its inputs, its delays and its slews
abbrev pub gate_arc : Table → Table → List ℕ → Tran → CellArc
gate_arc delay slew from tran =
    record { from = from; from_tran = tran; to = codes "Z"; to_tran = tran; kind = Comb; delay = delay; slew = slew }

abbrev pub gate_of : List ℕ → ℕ → Table → Table → Cell
gate_of name cap delay slew =
    record {
      name = name;
      pins = cell_pin (codes "A") Input cap ∷ cell_pin (codes "B") Input cap ∷ cell_pin (codes "Z") Output 0 ∷ [];
      arcs =
          gate_arc delay slew (codes "A") Rise ∷ gate_arc delay slew (codes "A") Fall
          ∷ gate_arc delay slew (codes "B") Rise ∷ gate_arc delay slew (codes "B") Fall ∷ [];
      tests = [];
    }

abbrev pub generated_library : Library
generated_library =
    record {
      cells =
          register_of ∷ gate_of (codes "AND2_X1") 1000 (load_table 10000 30000) (load_table 5000 25000)
          ∷ gate_of (codes "AND2_X2") 2000 (load_table 8000 18000) (load_table 4000 14000) ∷ [];
    }
