-- What is known of a net on the way to its tree.

use Rattle.std.specs.Prelude.{ℕ, ℤ, pos, ◌≡◌, ◌≤◌, ◌^◌, true, false, List, [], map, length}
use Rattle.sta_units.specs.Numbers.{is_within}
use Rattle.timing_defs.specs.declared.parasitics.RcNode.{RcNode}
use Rattle.timing_defs.specs.declared.parasitics.RcNode.TheVariants.{Pin as rc_pin}
use Rattle.timing_defs.specs.declared.parasitics.NetRc.{NetRc}
use Rattle.timing_defs.specs.declared.rows.PinCap.{PinCap}
use Rattle.timing_defs.specs.Wires.{sum_of, res_of}
use Rattle.timing_defs.specs.NetChecks.{has_cycle}
use Rattle.rc_tree.specs.declared.forests.Forest.{Forest}
use Rattle.rc_tree.specs.declared.wires.Wire.{Wire}
use Rattle.rc_tree.specs.Trees.{Told, IsMeasured, tree_nodes, total_load}
use Rattle.rc_tree.specs.Numbering.{node_at, AreApart, IsJoined}
use Rattle.rc_tree.specs.Wiring.{IsForestOf, is_reached}

-- the nodes of a net, its root first, and the forest of its resistors between them
pub record IsFounded (net : NetRc) (root : List ℕ) (pins : List PinCap) (nodes : List RcNode) (forest : Forest) : Type 0 where
  pub joined : IsJoined [] (tree_nodes net root pins) nodes
  pub apart : AreApart nodes
  pub first : node_at nodes 0 ≡ rc_pin root
  pub found : IsForestOf nodes net.ress forest
  pub acyclic : has_cycle net ≡ false
  pub measured : IsMeasured net root pins

-- all nodes are reached and are not too many, and the totals are within their limits
pub record IsPassed (net : NetRc) (pins : List PinCap) (nodes : List RcNode) (forest : Forest) (load : ℕ) : Type 0 where
  pub reached : is_reached net forest.rows.items ≡ true
  pub few : length nodes ≤ 65535
  pub total : pos load ≡ total_load net pins
  pub low : load ≤ 10 ^ 12
  pub fine : is_within (sum_of res_of net.ress) ≡ true

-- what wires and a load tell of nodes
abbrev pub told_of : List RcNode → List Wire → ℤ → Told
told_of nodes wires load = record { nodes = nodes; delays = map (λ w. w.delay) wires; impulses = map (λ w. w.impulse) wires; load = load }
