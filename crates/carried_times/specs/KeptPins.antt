-- Endpoints whose tests an edit leaves, by numbers of the edited store.

use Rattle.std.specs.Prelude.{ℕ, ◌≡◌, true, false, List, Some}
use Rattle.timing_defs.specs.declared.kinds.Split.{Split}
use Rattle.timing_defs.specs.declared.kinds.Tran.{Tran}
use Rattle.timing_defs.specs.RowTimes.{slew_in}
use Rattle.netlist_store.specs.Numbering.{Stored, is_number, owner_number}
use Rattle.pin_graph.specs.Nodes.{node_number, pin_under}
use Rattle.pin_graph.specs.Graphs.{Graphed, network_at}
use Rattle.pin_graph.specs.RowTables.{row_numbered}
use Rattle.edit_reach.specs.Reach.{is_in}

-- a pin without seeds and off the clock network, whose nodes keep their slews in a split; no other pin of its instance has a node behind a seed
pub record IsKeptPin (base : Stored) (g : Graphed) (seeds found : List ℕ) (split : Split) (pin : ℕ) : Type 0 where
  pub there : is_number g.stored.pins pin ≡ true
  pub unseeded : (tran : Tran) → is_in seeds (node_number pin tran) ≡ false
  pub off : (tran : Tran) → network_at g (node_number pin tran) ≡ false
  pub slews : (tran : Tran) → slew_in split (row_numbered g.stored (node_number pin tran)) ≡ slew_in split (row_numbered base (node_number pin tran))
  pub alone : (k inst : ℕ) → is_in found k ≡ true → owner_number g.stored pin ≡ Some inst → owner_number g.stored (pin_under k) ≡ Some inst → pin_under k ≡ pin
