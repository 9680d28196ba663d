-- Nodes and endpoints by the names in questions, and why a question is refused.

use Rattle.std.specs.Prelude.{ℕ, ◌≡◌, ◌<◌, ◌⊎◌, true, List, Option, None, Some}
use Rattle.timing_defs.specs.declared.kinds.Tran.{Tran}
use Rattle.timing_defs.specs.declared.kinds.Kind.{Kind}
use Rattle.timing_defs.specs.declared.faults.QueryFault.{QueryFault}
use Rattle.timing_defs.specs.declared.faults.QueryFault.TheVariants.{Memory}
use Rattle.timing_defs.specs.Netlist.{Pin, pin_named}
use Rattle.timing_rules.specs.Reports.{unknown_pin, endpoint_fault}
use Rattle.netlist_store.specs.Numbering.{Stored, name_at}
use Rattle.pin_graph.specs.Nodes.{node_at, node_bound}
use Rattle.affected_cone.specs.Analysed.{is_end}

-- a question is refused for want of memory, else for its fault
abbrev pub IsRefusal : Option QueryFault → QueryFault → Type 0
IsRefusal fault told = (told ≡ Memory) ⊎ (fault ≡ Some told)

-- a node by the name of its pin
pub record IsNode (s : Stored) (name : List ℕ) (tran : Tran) (node : ℕ) : Type 0 where
  pub pin : Pin
  pub named : pin_named s.design name ≡ Some pin
  pub told : node_at s node ≡ Some (record { pin = pin; tran = tran })
  pub below : node < node_bound s

-- a pin that is there, by its name
pub record IsAskedPin (s : Stored) (name : List ℕ) (pin : ℕ) : Type 0 where
  pub told : name_at s.pins pin ≡ Some name
  pub free : unknown_pin s.design name ≡ None

-- an endpoint that a question of a kind may ask for, by its name
pub record IsAskedEnd (s : Stored) (kind : Kind) (name : List ℕ) (pin : ℕ) : Type 0 where
  pub told : name_at s.pins pin ≡ Some name
  pub end : is_end s pin ≡ true
  pub free : endpoint_fault s.design kind name ≡ None
