-- The module that a netlist writes (IEEE 1364, "Module definition").
use Rattle.std.specs.Prelude.{ℕ, List, [], ◌∷◌, ◌++◌, map, if◌then◌else◌, Option, Some, None, option_map}
use Rattle.timing_defs.specs.declared.kinds.Dir.{Dir}
use Rattle.timing_defs.specs.declared.kinds.Dir.TheVariants.{Input, Output}
use Rattle.timing_defs.specs.declared.netlist.Port.{Port}
use Rattle.timing_defs.specs.declared.netlist.Conn.{Conn}
use Rattle.timing_defs.specs.declared.netlist.Inst.{Inst}
use Rattle.timing_defs.specs.declared.netlist.Module.{Module}
use Rattle.verilog_netlist.specs.declared.events.Role.{Role}
use Rattle.verilog_netlist.specs.declared.events.Net.{Net}
use Rattle.verilog_netlist.specs.declared.events.Net.TheVariants.{Tied, Alone, Bit}
use Rattle.verilog_netlist.specs.declared.events.Event.{Event}
use Rattle.verilog_netlist.specs.declared.events.Event.TheVariants.{Module as Named, Declared, Instance, Connection}
use Rattle.verilog_netlist.specs.Nets.{nets_of}
use Rattle.verilog_netlist.specs.Grammar.{is_port, is_output}
use Rattle.verilog_netlist.specs.Faults.{all_declared, all_vectors, all_nets}

abbrev pub dir_of : Role → Dir
dir_of role = (if is_output role then Output else Input)

abbrev pub port_of : Dir → List ℕ → Port
port_of dir name = record { name = name; dir = dir }

-- the ports, in the order in which the text gives them their directions
unfoldable pub ports_of : List Event → List Port
ports_of [] = []
ports_of (Declared kind name at ∷ es) =
    (if is_port kind.role then map (port_of (dir_of kind.role)) (nets_of kind.span name) ++ ports_of es else ports_of es)
ports_of (e ∷ es) = ports_of es

-- a constant or nothing is no net
abbrev pub net_name : Net → Option (List ℕ)
net_name Tied = None
net_name (Alone name at) = Some name
net_name (Bit name at) = Some name

-- the connections up to the next instance
unfoldable pub conns_of : List Event → List Conn
conns_of [] = []
conns_of (Connection pin net ∷ es) = record { pin = pin; net = net_name net } ∷ conns_of es
conns_of (Instance cell name at ∷ es) = []
conns_of (e ∷ es) = conns_of es

unfoldable pub insts_of : List Event → List Inst
insts_of [] = []
insts_of (Instance cell name at ∷ es) = record { name = name; cell = cell; conns = conns_of es } ∷ insts_of es
insts_of (e ∷ es) = insts_of es

-- the instances of these events, where one has begun before them: they have more connections of it
abbrev pub begun_insts : Option Inst → List Event → List Inst
begun_insts None es = insts_of es
begun_insts (Some inst) es =
    record { name = inst.name; cell = inst.cell; conns = inst.conns ++ conns_of es } ∷ insts_of es

unfoldable pub module_name : List Event → Option (List ℕ)
module_name [] = None
module_name (Named name ∷ es) = Some name
module_name (e ∷ es) = module_name es

-- the nets, in the order of the text
abbrev pub module_nets : List Event → List (List ℕ)
module_nets es = all_nets (all_declared [] es) (all_vectors [] es) [] es

abbrev pub module_named : List Event → List ℕ → Module
module_named es name =
    record { name = name; ports = ports_of es; nets = module_nets es; insts = insts_of es }

-- the module of a text without faults
abbrev pub module_of : List Event → Option Module
module_of es = option_map (module_named es) (module_name es)
