-- Tables of what constraints say of ports (SDC: set_input_transition, set_load, set_input_delay).

use Rattle.std.specs.Prelude.{ℕ, ℤ, pos, ◌≡◌, nat_eq, Bool, true, not, ◌&&◌, ◌==◌, if◌then◌else◌, List, [], ◌∷◌, Option, None, Some, find, option_map}
use Rattle.std.specs.Cmp.Lexicographic.{pointwise}
use Rattle.std.specs.List.{list_any}
use Rattle.std.specs.Option.{option_map_or}
use Rattle.std.specs.Str.{bytes_eq}
use Rattle.indexmap.specs.IndexMap.{IndexMap, get}
use Rattle.sta_units.specs.declared.units.Fs.{Fs}
use Rattle.sta_units.specs.declared.units.Af.{Af}
use Rattle.timing_defs.specs.declared.kinds.Split.{Split}
use Rattle.timing_defs.specs.declared.kinds.Split.TheVariants.{Early, Late}
use Rattle.timing_defs.specs.declared.kinds.Tran.{Tran}
use Rattle.timing_defs.specs.declared.kinds.Tran.TheVariants.{Rise, Fall}
use Rattle.timing_defs.specs.declared.constraints.PortSlew.{PortSlew}
use Rattle.timing_defs.specs.declared.constraints.PortLoad.{PortLoad}
use Rattle.timing_defs.specs.declared.constraints.PortDelay.{PortDelay}
use Rattle.timing_defs.specs.declared.constraints.Constraints.{Constraints}
use Rattle.timing_defs.specs.Netlist.{same_split, same_tran}
use Rattle.node_rows.specs.declared.ports.Start.{Start}
use Rattle.node_rows.specs.declared.ports.SlewTables.{SlewTables}
use Rattle.node_rows.specs.declared.ports.LoadTables.{LoadTables}
use Rattle.node_rows.specs.declared.ports.StartTables.{StartTables}
use Rattle.node_rows.specs.declared.ports.Ports.{Ports}

-- what a table has under a name
abbrev pub under : {V S : Type 0} → IndexMap (List ℕ) V S → List ℕ → Option V
under table name = get (pointwise ◌==◌) table name

-- the slew, the load and the input delay that are written for a port
abbrev pub is_slew_at : Split → Tran → List ℕ → PortSlew → Bool
is_slew_at split tran port s = bytes_eq s.port port && same_split s.split split && same_tran s.tran tran

abbrev pub slew_in : List PortSlew → Split → Tran → List ℕ → Option Fs
slew_in slews split tran port = option_map (λ s. s.slew) (find (is_slew_at split tran port) slews)

abbrev pub is_load_at : Split → List ℕ → PortLoad → Bool
is_load_at split port l = bytes_eq l.port port && same_split l.split split

abbrev pub load_in : List PortLoad → Split → List ℕ → Option Af
load_in loads split port = option_map (λ l. l.load) (find (is_load_at split port) loads)

abbrev pub is_delay_at : Split → Tran → List ℕ → PortDelay → Bool
is_delay_at split tran port i = bytes_eq i.port port && same_split i.split split && same_tran i.tran tran

abbrev pub start_of : PortDelay → Start
start_of i = record { clock = i.clock; delay = i.delay }

abbrev pub start_in : List PortDelay → Split → Tran → List ℕ → Option Start
start_in inputs split tran port = option_map start_of (find (is_delay_at split tran port) inputs)

-- the delay of a start, where it is from that clock
abbrev pub delay_from : ℕ → Start → Option ℤ
delay_from clock start = (if nat_eq start.clock clock then Some start.delay.0 else None)

-- no two input delays are of one port, split and transition
abbrev pub same_start : PortDelay → PortDelay → Bool
same_start a b = bytes_eq a.port b.port && same_split a.split b.split && same_tran a.tran b.tran

abbrev pub are_apart : List PortDelay → Bool
are_apart [] = true
are_apart (x ∷ xs) = not (list_any (same_start x) xs) && are_apart xs

-- the definitions' values at a port, by its name
abbrev pub slew_of_port : Constraints → Split → Tran → List ℕ → ℤ
slew_of_port c split tran port = option_map_or (λ s. s.slew.0) (find (is_slew_at split tran port) c.slews) (pos 0)

abbrev pub delay_of_port : Constraints → Split → Tran → List ℕ → ℕ → Option ℤ
delay_of_port c split tran port clock =
    option_map (λ i. i.delay.0)
    (find (λ i. bytes_eq i.port port && same_split i.split split && same_tran i.tran tran && nat_eq i.clock clock) c.inputs)

-- what the tables have for a port
abbrev pub slew_under : SlewTables → Split → Tran → List ℕ → Option Fs
slew_under t Early Rise port = under t.early_rise port
slew_under t Early Fall port = under t.early_fall port
slew_under t Late Rise port = under t.late_rise port
slew_under t Late Fall port = under t.late_fall port

abbrev pub load_under : LoadTables → Split → List ℕ → Option Af
load_under t Early port = under t.early port
load_under t Late port = under t.late port

abbrev pub start_under : StartTables → Split → Tran → List ℕ → Option Start
start_under t Early Rise port = under t.early_rise port
start_under t Early Fall port = under t.early_fall port
start_under t Late Rise port = under t.late_rise port
start_under t Late Fall port = under t.late_fall port

-- the tables are those of the constraints
pub record AreSlews (slews : List PortSlew) (t : SlewTables) : Type 0 where
  pub early_rise : (port : List ℕ) → under t.early_rise port ≡ slew_in slews Early Rise port
  pub early_fall : (port : List ℕ) → under t.early_fall port ≡ slew_in slews Early Fall port
  pub late_rise : (port : List ℕ) → under t.late_rise port ≡ slew_in slews Late Rise port
  pub late_fall : (port : List ℕ) → under t.late_fall port ≡ slew_in slews Late Fall port

pub record AreLoads (loads : List PortLoad) (t : LoadTables) : Type 0 where
  pub early : (port : List ℕ) → under t.early port ≡ load_in loads Early port
  pub late : (port : List ℕ) → under t.late port ≡ load_in loads Late port

pub record AreStarts (inputs : List PortDelay) (t : StartTables) : Type 0 where
  pub early_rise : (port : List ℕ) → under t.early_rise port ≡ start_in inputs Early Rise port
  pub early_fall : (port : List ℕ) → under t.early_fall port ≡ start_in inputs Early Fall port
  pub late_rise : (port : List ℕ) → under t.late_rise port ≡ start_in inputs Late Rise port
  pub late_fall : (port : List ℕ) → under t.late_fall port ≡ start_in inputs Late Fall port

pub record ArePorts (c : Constraints) (p : Ports) : Type 0 where
  pub slews : AreSlews c.slews p.slews
  pub loads : AreLoads c.loads p.loads
  pub starts : AreStarts c.inputs p.starts
