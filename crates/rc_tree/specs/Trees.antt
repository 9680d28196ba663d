-- Trees of resistors: which nodes one has, the first fault of a net that is none, and what is told of one.

use Rattle.std.specs.Prelude.{ℕ, ℤ, pos, ◌+ℤ◌, ◌≡◌, ◌⊎◌, ◌<◌, nat_lt, Bool, true, not, ◌&&◌, ◌||◌, if◌then◌else◌, List, [], ◌∷◌, ◌++◌, map, length, get_or, Option, Some, None, is_some}
use Rattle.std.specs.List.{list_any, list_all, AllByRecursion}
use Rattle.sta_units.specs.Numbers.{limit, is_within}
use Rattle.timing_defs.specs.declared.parasitics.RcNode.{RcNode}
use Rattle.timing_defs.specs.declared.parasitics.RcNode.TheVariants.{Pin as rc_pin, Inner as rc_inner}
use Rattle.timing_defs.specs.declared.parasitics.RcCap.{RcCap}
use Rattle.timing_defs.specs.declared.parasitics.NetRc.{NetRc}
use Rattle.timing_defs.specs.declared.rows.PinCap.{PinCap}
use Rattle.timing_defs.specs.Wires.{sum_of, same_rc, res_of, path_between, elmore, impulse, is_lumped}
use Rattle.timing_defs.specs.NetChecks.{named_nodes, different, has_cycle}
use Rattle.rc_tree.specs.declared.faults.RcFault.{RcFault}
use Rattle.rc_tree.specs.declared.faults.RcFault.TheVariants.{Loop, Unreached, TooLarge, OutOfRange, Memory}

-- all capacitance at nodes of a net: to ground, and that of each pin at the pin (IEEE 1481)
abbrev pub pin_charges : NetRc → List PinCap → List RcCap
pin_charges net pins = net.caps ++ map (λ p. record { node = rc_pin p.pin; cap = p.cap }) pins

-- the nodes of a tree: its root and all that the net names; of a lumped net each pin is one (own rule)
abbrev pub tree_nodes : NetRc → List ℕ → List PinCap → List RcNode
tree_nodes net root pins =
    rc_pin root ∷ ((if is_lumped net then map (λ p. rc_pin p.pin) pins else []) ++ named_nodes net)

abbrev pub is_node : List RcNode → RcNode → Bool
is_node nodes node = list_any (same_rc node) nodes

-- the resistors do not lead from the root to each node that the net names
abbrev pub is_unreached : NetRc → List ℕ → Bool
is_unreached net root =
    not (is_lumped net) && not (list_all (λ node. is_some (path_between net.ress (rc_pin root) node)) (named_nodes net))

-- a net has at most 65,535 nodes (own limit)
abbrev pub is_too_large : NetRc → List ℕ → List PinCap → Bool
is_too_large net root pins = nat_lt 65535 (different [] (tree_nodes net root pins))

-- all capacitance of a net, which is the load of its driver
abbrev pub total_load : NetRc → List PinCap → ℤ
total_load net pins = net.lump.0 +ℤ sum_of (λ c. c.cap.0) (pin_charges net pins)

abbrev pub delay_of : NetRc → List ℕ → List PinCap → RcNode → ℤ
delay_of net root pins node = elmore net.ress (rc_pin root) (pin_charges net pins) node

abbrev pub impulse_of : NetRc → List ℕ → List PinCap → RcNode → ℤ
impulse_of net root pins node = impulse net.ress (rc_pin root) (pin_charges net pins) node

-- a total or a delay is beyond the limit
abbrev pub is_out_of_range : NetRc → List ℕ → List PinCap → Bool
is_out_of_range net root pins =
    not (is_within (sum_of res_of net.ress)) || not (is_within (total_load net pins))
    || not (list_all (λ node. is_within (delay_of net root pins node)) (tree_nodes net root pins))

-- the first fault of a net, in the order in which faults are told
abbrev pub rc_fault : NetRc → List ℕ → List PinCap → Option RcFault
rc_fault net root pins =
    (if has_cycle net then Some Loop else
    (if is_unreached net root then Some Unreached else
    (if is_too_large net root pins then Some TooLarge else
    (if is_out_of_range net root pins then Some OutOfRange else None))))

-- want of memory, or the fault of the net
abbrev pub IsFaultOf : NetRc → List ℕ → List PinCap → RcFault → Type 0
IsFaultOf net root pins fault = (fault ≡ Memory) ⊎ (rc_fault net root pins ≡ Some fault)

-- what a tree tells: its nodes by their numbers, with the delay and the impulse of each, and the load
pub record Told : Type 0 where
  pub nodes : List RcNode
  pub delays : List ℤ
  pub impulses : List ℕ
  pub load : ℤ

-- no node stands twice
abbrev pub AreDistinct : List RcNode → Type 0
AreDistinct nodes = (i j : ℕ) → i < length nodes → j < length nodes → get_or nodes i (rc_inner 0) ≡ get_or nodes j (rc_inner 0) → i ≡ j

-- what is told is what the net's resistors and capacitances give
pub record IsTreeOf (net : NetRc) (root : List ℕ) (pins : List PinCap) (told : Told) : Type 0 where
  pub members : (node : RcNode) → is_node told.nodes node ≡ is_node (tree_nodes net root pins) node
  pub once : AreDistinct told.nodes
  pub delays : told.delays ≡ map (delay_of net root pins) told.nodes
  pub impulses : map pos told.impulses ≡ map (impulse_of net root pins) told.nodes
  pub load : told.load ≡ total_load net pins

-- each pin that the net names, and the root, is in `pins`; all numbers are from 0 to the limit
abbrev pub is_amount : ℤ → Bool
is_amount (pos n) = not (nat_lt limit n)
is_amount z = not true

abbrev pub is_listed_pin : List PinCap → RcNode → Bool
is_listed_pin pins (rc_pin name) = list_any (λ p. same_rc (rc_pin name) (rc_pin p.pin)) pins
is_listed_pin pins (rc_inner k) = true

pub record IsMeasured (net : NetRc) (root : List ℕ) (pins : List PinCap) : Type 0 where
  pub named : AllByRecursion (λ node. is_listed_pin pins node ≡ true) (named_nodes net)
  pub rooted : is_listed_pin pins (rc_pin root) ≡ true
  pub resistances : AllByRecursion (λ r. is_amount r.res.0 ≡ true) net.ress
  pub caps : AllByRecursion (λ c. is_amount c.cap.0 ≡ true) (pin_charges net pins)
  pub lump : is_amount net.lump.0 ≡ true
