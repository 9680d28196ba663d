-- Designs that a store takes: documents as their readers give them, and a netlist that is linked to its libraries.

use Rattle.std.specs.Prelude.{ℕ, ◌≤◌, ◌≡◌, Bool, true, false, not, ◌&&◌, List, [], ◌∷◌, map, length}
use Rattle.std.specs.List.{list_all}
use Rattle.std.specs.Option.{option_map_or}
use Rattle.timing_defs.specs.declared.netlist.Inst.{Inst}
use Rattle.timing_defs.specs.declared.design.Design.{Design}
use Rattle.timing_defs.specs.Netlist.{is_listed, are_distinct}
use Rattle.timing_defs.specs.Edits.{has_colon, first_fault, link_inst, link_net}
use Rattle.timing_defs.specs.Wires.{first_some}
use Rattle.timing_defs.specs.Documents.{is_library, are_constraints, are_parasitics}

-- the names of ports are distinct, and so are those of instances, of nets, and of the pins in one list of connections
abbrev pub has_distinct_names : Design → Bool
has_distinct_names d =
    are_distinct (map (λ port. port.name) d.ports) && are_distinct (map (λ inst. inst.name) d.insts) && are_distinct d.nets
    && list_all (λ inst. are_distinct (map (λ conn. conn.pin) inst.conns)) d.insts

-- the name of every port, and every net that a connection names, is in the list of nets
abbrev pub joins_nets : Design → Inst → Bool
joins_nets d inst = list_all (λ conn. option_map_or (is_listed d.nets) conn.net true) inst.conns

-- what linking refuses does not stand in the design: no unknown cell, pin or net
abbrev pub linking_fault : Design → Bool
linking_fault d =
    option_map_or (λ fault. true)
    (first_fault (first_some (link_inst d.early d.late) d.insts ∷ first_some (link_net d.nets) d.rcs ∷ [])) false

-- what every store keeps of its design
pub record IsLinked (d : Design) : Type 0 where
  pub early : is_library d.early ≡ true
  pub late : is_library d.late ≡ true
  pub constraints : are_constraints d.constraints ≡ true
  pub parasitics : are_parasitics d.rcs ≡ true
  pub names : has_distinct_names d ≡ true
  pub ports : list_all (λ port. not (has_colon port.name)) d.ports ≡ true
  pub port_nets : list_all (λ port. is_listed d.nets port.name) d.ports ≡ true
  pub nets : list_all (joins_nets d) d.insts ≡ true
  pub linked : linking_fault d ≡ false

-- a design of a size that can be taken or edited: at most 200,000 instances and 200,000 nets
pub record IsSized (d : Design) : Type 0 where
  pub insts : length d.insts ≤ 200000
  pub nets : length d.nets ≤ 200000
