-- What two designs have alike of a node that no edit between them touched.

use Rattle.std.specs.Prelude.{◌≡◌, ℕ, ℤ, true, List, map, Contains, Some, option_map}
use Rattle.std.specs.List.{list_any, list_all}
use Rattle.timing_defs.specs.declared.kinds.Split.{Split}
use Rattle.timing_defs.specs.declared.kinds.Split.TheVariants.{Early, Late}
use Rattle.timing_defs.specs.declared.library.CellPin.{CellPin}
use Rattle.timing_defs.specs.declared.netlist.Inst.{Inst}
use Rattle.timing_defs.specs.declared.design.Design.{Design}
use Rattle.timing_defs.specs.Netlist.{Pin, Node, name_of, net_of, driver, cell_of, cell_pins, are_distinct}
use Rattle.timing_rules.specs.Clocking.{is_network, cell_arcs, cell_tests}
use Rattle.timing_defs.specs.Wires.{net_load, wire_delay, wire_slew}
use Rattle.timing_rules.specs.Rows.{arcs_in}
use Rattle.timing_defs.specs.Edits.{same_arc, same_test}
use Rattle.timing_rules.specs.Range.{net_wires_within}
use Rattle.timing_rules.specs.Cones.{same_arcs, has_comb_arc, has_register_arc}
use Rattle.netlist_store.proofs.SeenPins.{seen}
use Rattle.netlist_store.proofs.Untouched.{IsFramed}

-- a node of the base and one of the edited design: of one instance by its name, of the same cell, pin and transition
pub record AreAlike (n n2 : Node) : Type 0 where
  pub pin : seen n2.pin ≡ seen n.pin
  pub tran : n2.tran ≡ n.tran

-- and on the same net
pub record IsNodeKept (n n2 : Node) : Type 0 where
  pub alike : AreAlike n n2
  pub net : net_of n2.pin ≡ net_of n.pin

-- a net with the same driver, load and wires
pub record IsNetKept (d d2 : Design) (net : List ℕ) : Type 0 where
  pub driver : option_map seen (driver d2 net) ≡ option_map seen (driver d net)
  pub load : (split : Split) → net_load d2 split net ≡ net_load d split net
  pub delay : (split : Split) (from to from2 to2 : Pin) → name_of from2 ≡ name_of from → name_of to2 ≡ name_of to
      → wire_delay d2 split net from2 to2 ≡ wire_delay d split net from to
  pub slew : (split : Split) (from to from2 to2 : Pin) → name_of from2 ≡ name_of from → name_of to2 ≡ name_of to
      → (x : ℤ) → wire_slew d2 split net from2 to2 x ≡ wire_slew d split net from to x
  pub within : (split : Split) → net_wires_within d2 split (Some net) ≡ net_wires_within d split (Some net)

-- the cell of an instance has pins of distinct names, and each arc and test of the early library is in the late one
pub record IsKnownCell (d : Design) (inst : Inst) : Type 0 where
  pub apart : are_distinct (map (λ (p : CellPin). p.name) (cell_pins (cell_of d Late inst))) ≡ true
  pub agree : list_all (λ x. list_any (same_arc x) (cell_arcs (cell_of d Late inst))) (cell_arcs (cell_of d Early inst)) ≡ true
  pub tested : list_all (λ x. list_any (same_test x) (cell_tests (cell_of d Late inst))) (cell_tests (cell_of d Early inst)) ≡ true

-- a node that is no seed, in the base and in the edited design
pub record IsCalm (d d2 : Design) (n n2 : Node) : Type 0 where
  pub framed : IsFramed d d2
  pub kept : IsNodeKept n n2
  pub nets : (net : List ℕ) → net_of n.pin ≡ Some net → IsNetKept d d2 net
  pub network : is_network d2 n2.pin ≡ is_network d n.pin
  pub arcs : same_arcs d d2 n n2 ≡ true
  pub cells : (inst : Inst) → n.pin.owner ≡ Some inst → IsKnownCell d inst

-- an arc into each: from alike nodes, of the same sort
pub record IsArcPair (d d2 : Design) (n n2 : Node) (from from2 : Node) : Type 0 where
  pub alike : AreAlike from from2
  pub before : Contains (arcs_in d n) from
  pub after : Contains (arcs_in d2 n2) from2
  pub comb : has_comb_arc d from n ≡ has_comb_arc d2 from2 n2
  pub register : has_register_arc d from n ≡ has_register_arc d2 from2 n2
