-- The tables that an analysis is made over.

use Rattle.std.specs.Prelude.{ℕ, ◌≡◌, false}
use Rattle.netlist_store.specs.Numbering.{Stored}
use Rattle.node_rows.specs.declared.pin_wires.Wires.{Wires}
use Rattle.node_rows.specs.declared.ports.Ports.{Ports}
use Rattle.node_rows.specs.WireTables.{AreWires}
use Rattle.node_rows.specs.PortTables.{ArePorts}
use Rattle.node_rows.specs.NetTrees.{is_wide_net}

-- the tables of the wires and of the ports of a store, in which no net is too large
pub record ArePlanned (s : Stored) (w : Wires) (p : Ports) : Type 0 where
  pub wires : AreWires s w
  pub ports : ArePorts s.design.constraints p
  pub nets : (net : ℕ) → is_wide_net s net ≡ false
