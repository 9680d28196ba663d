-- The pins of a design and what they are joined to (IEEE 1364, structural subset).

use Rattle.std.specs.Prelude.{ℕ, Bool, true, false, not, ◌&&◌, List, [], ◌∷◌, ◌++◌, map, filter, Option, Some, None, find, option_and_then, option_map}
use Rattle.std.specs.List.{list_any, flat_map}
use Rattle.std.specs.Option.{option_map_or}
use Rattle.std.specs.Str.{bytes_eq}
use Rattle.timing_defs.specs.declared.kinds.Split.{Split}
use Rattle.timing_defs.specs.declared.kinds.Split.TheVariants.{Early, Late}
use Rattle.timing_defs.specs.declared.kinds.Tran.{Tran}
use Rattle.timing_defs.specs.declared.kinds.Tran.TheVariants.{Rise, Fall}
use Rattle.timing_defs.specs.declared.kinds.Dir.{Dir}
use Rattle.timing_defs.specs.declared.kinds.Dir.TheVariants.{Input, Output}
use Rattle.timing_defs.specs.declared.library.Library.{Library}
use Rattle.timing_defs.specs.declared.library.Cell.{Cell}
use Rattle.timing_defs.specs.declared.library.CellPin.{CellPin}
use Rattle.timing_defs.specs.declared.netlist.Port.{Port}
use Rattle.timing_defs.specs.declared.netlist.Inst.{Inst}
use Rattle.timing_defs.specs.declared.netlist.Conn.{Conn}
use Rattle.timing_defs.specs.declared.design.Design.{Design}

-- a port, which no instance owns, or a pin of an instance; `own` is its name among the ports or in the cell
pub record Pin : Type 0 where
  pub owner : Option Inst
  pub own : List ℕ
  pub dir : Dir

-- a pin with a transition
pub record Node : Type 0 where
  pub pin : Pin
  pub tran : Tran

-- a port goes by its own name, a pin of an instance by `instance:pin`
abbrev pub full_name : Option Inst → List ℕ → List ℕ
full_name None own = own
full_name (Some inst) own = inst.name ++ 58 ∷ own

abbrev pub name_of : Pin → List ℕ
name_of pin = full_name pin.owner pin.own

abbrev pub same_pin : Pin → Pin → Bool
same_pin a b = bytes_eq (name_of a) (name_of b)

abbrev pub same_tran : Tran → Tran → Bool
same_tran Rise Rise = true
same_tran Rise Fall = false
same_tran Fall Rise = false
same_tran Fall Fall = true

abbrev pub same_dir : Dir → Dir → Bool
same_dir Input Input = true
same_dir Input Output = false
same_dir Output Input = false
same_dir Output Output = true

abbrev pub same_node : Node → Node → Bool
same_node a b = same_pin a.pin b.pin && same_tran a.tran b.tran

abbrev pub same_split : Split → Split → Bool
same_split Early Early = true
same_split Early Late = false
same_split Late Early = false
same_split Late Late = true

abbrev pub library_of : Design → Split → Library
library_of d Early = d.early
library_of d Late = d.late

abbrev pub cell_named : List Cell → List ℕ → Option Cell
cell_named cells name = find (λ cell. bytes_eq cell.name name) cells

abbrev pub cell_of : Design → Split → Inst → Option Cell
cell_of d split inst = cell_named (library_of d split).cells inst.cell

abbrev pub port_pin : Port → Pin
port_pin port = record { owner = None; own = port.name; dir = port.dir }

abbrev pub cell_pin : Inst → CellPin → Pin
cell_pin inst pin = record { owner = Some inst; own = pin.name; dir = pin.dir }

abbrev pub cell_pins : Option Cell → List CellPin
cell_pins None = []
cell_pins (Some cell) = cell.pins

-- the pins of an instance are those of its cell, connected or not
abbrev pub inst_pins : Design → Inst → List Pin
inst_pins d inst = map (cell_pin inst) (cell_pins (cell_of d Late inst))

abbrev pub pins : Design → List Pin
pins d = map port_pin d.ports ++ flat_map (inst_pins d) d.insts

abbrev pub pin_named : Design → List ℕ → Option Pin
pin_named d name = find (λ pin. bytes_eq (name_of pin) name) (pins d)

-- the pin of an instance that goes by this name in its cell
abbrev pub pin_at : Design → Inst → List ℕ → Option Pin
pin_at d inst own =
    option_map (cell_pin inst) (find (λ pin. bytes_eq pin.name own) (cell_pins (cell_of d Late inst)))

abbrev pub conn_net : List Conn → List ℕ → Option (List ℕ)
conn_net conns own = option_and_then (λ conn. conn.net) (find (λ conn. bytes_eq conn.pin own) conns)

-- the net of a pin; each port is on the net of its name
abbrev pub net_at : Option Inst → List ℕ → Option (List ℕ)
net_at None own = Some own
net_at (Some inst) own = conn_net inst.conns own

abbrev pub net_of : Pin → Option (List ℕ)
net_of pin = net_at pin.owner pin.own

abbrev pub is_on : List ℕ → Pin → Bool
is_on net pin = option_map_or (bytes_eq net) (net_of pin) false

-- an input port and an output pin of an instance drive their net
abbrev pub drives_as : Option Inst → Dir → Bool
drives_as None dir = same_dir dir Input
drives_as (Some inst) dir = same_dir dir Output

abbrev pub is_driver : Pin → Bool
is_driver pin = drives_as pin.owner pin.dir

abbrev pub drivers : Design → List ℕ → List Pin
drivers d net = filter (λ pin. is_driver pin && is_on net pin) (pins d)

-- the driver of a net, where it has one
abbrev pub driver : Design → List ℕ → Option Pin
driver d net = find (λ pin. is_driver pin && is_on net pin) (pins d)

-- the input pins and output ports on a net
abbrev pub sinks : Design → List ℕ → List Pin
sinks d net = filter (λ pin. not (is_driver pin) && is_on net pin) (pins d)

abbrev pub both_nodes : Pin → List Node
both_nodes pin = record { pin = pin; tran = Rise } ∷ record { pin = pin; tran = Fall } ∷ []

abbrev pub nodes : Design → List Node
nodes d = flat_map both_nodes (pins d)

-- a name stands in a list of names; no name stands twice
abbrev pub is_listed : List (List ℕ) → List ℕ → Bool
is_listed names name = list_any (bytes_eq name) names

abbrev pub are_distinct : List (List ℕ) → Bool
are_distinct [] = true
are_distinct (name ∷ names) = not (is_listed names name) && are_distinct names
