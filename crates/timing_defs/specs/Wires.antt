-- Loads, and the first two moments of the wire from a driver to its sinks: Elmore's delay and the
-- impulse of the slew (TAU 2015 contest). Each sum is exact and rounded once.

use Rattle.std.specs.Prelude.{ℕ, ◌^◌, zero, suc, ℤ, pos, ◌+ℤ◌, ◌-ℤ◌, ◌*ℤ◌, nat_abs, int_lt, nat_eq, Bool, false, ◌&&◌, ◌||◌, if◌then◌else◌, List, [], ◌∷◌, ◌++◌, map, filter, length, Option, Some, None, find, option_map}
use Rattle.std.specs.Option.{option_map_or, unwrap_or}
use Rattle.std.specs.Str.{bytes_eq}
use Rattle.sta_units.specs.Numbers.{rounded, root_of}
use Rattle.timing_defs.specs.declared.kinds.Split.{Split}
use Rattle.timing_defs.specs.declared.constraints.PortLoad.{PortLoad}
use Rattle.timing_defs.specs.declared.parasitics.RcNode.{RcNode}
use Rattle.timing_defs.specs.declared.parasitics.RcNode.TheVariants.{Pin as rc_pin, Inner as rc_inner}
use Rattle.timing_defs.specs.declared.parasitics.RcCap.{RcCap}
use Rattle.timing_defs.specs.declared.parasitics.RcRes.{RcRes}
use Rattle.timing_defs.specs.declared.parasitics.NetRc.{NetRc}
use Rattle.timing_defs.specs.declared.netlist.Inst.{Inst}
use Rattle.timing_defs.specs.declared.design.Design.{Design}
use Rattle.timing_defs.specs.Netlist.{Pin, name_of, same_split, cell_of, cell_pins, is_on, sinks, pins}

abbrev pub sum_of : {X : Type 0} → (X → ℤ) → List X → ℤ
sum_of f [] = pos 0
sum_of f (x ∷ xs) = f x +ℤ sum_of f xs

abbrev pub same_rc : RcNode → RcNode → Bool
same_rc (rc_pin a) (rc_pin b) = bytes_eq a b
same_rc (rc_inner a) (rc_inner b) = nat_eq a b
same_rc (rc_pin a) (rc_inner b) = false
same_rc (rc_inner a) (rc_pin b) = false

-- a resistor at a node, and the node that it leads to from there
abbrev pub touches : RcRes → RcNode → Bool
touches r node = same_rc r.a node || same_rc r.b node

abbrev pub far_end : RcRes → RcNode → RcNode
far_end r node = (if same_rc r.a node then r.b else r.a)

-- a list with each of its places left out in turn: (what was there, the rest)
abbrev pub each_with_rest : {X : Type 0} → List X → List X → List (X × List X)
each_with_rest before [] = []
each_with_rest before (x ∷ xs) = (x, before ++ xs) ∷ each_with_rest (before ++ x ∷ []) xs

abbrev pub first_some : {X Y : Type 0} → (X → Option Y) → List X → Option Y
first_some f [] = None
first_some f (x ∷ xs) = option_map_or Some (f x) (first_some f xs)

-- the resistors on a simple path between two nodes, each used once, from the first node on;
-- in a tree there is one such path at most
abbrev pub route : ℕ → List RcRes → RcNode → RcNode → Option (List RcRes)
route zero ress from to = (if same_rc from to then Some [] else None)
route (suc n) ress from to =
    (if same_rc from to then Some [] else
    first_some (λ (r, rest). if touches r from then option_map (λ rs. r ∷ rs) (route n rest (far_end r from) to) else None)
    (each_with_rest [] ress))

abbrev pub path_between : List RcRes → RcNode → RcNode → Option (List RcRes)
path_between ress from to = route (length ress) ress from to

abbrev pub res_of : RcRes → ℤ
res_of r = r.res.0

-- a resistor is known by its two ends: a tree has no two between the same nodes
abbrev pub same_res : RcRes → RcRes → Bool
same_res r s = same_rc r.a s.a && same_rc r.b s.b

-- the resistance of the common beginning of two paths
abbrev pub common_resistance : List RcRes → List RcRes → ℤ
common_resistance [] qs = pos 0
common_resistance (p ∷ ps) [] = pos 0
common_resistance (p ∷ ps) (q ∷ qs) = (if same_res p q then res_of p +ℤ common_resistance ps qs else pos 0)

-- the resistance of the common path from the root to two nodes
abbrev pub shared_resistance : List RcRes → RcNode → RcNode → RcNode → ℤ
shared_resistance ress root i k =
    common_resistance (unwrap_or (path_between ress root i) []) (unwrap_or (path_between ress root k) [])

-- `delay` at a node, over what capacitance stands where: the sum of shared resistance times capacitance
abbrev pub elmore : List RcRes → RcNode → List RcCap → RcNode → ℤ
elmore ress root charges k =
    rounded (sum_of (λ c. shared_resistance ress root c.node k *ℤ c.cap.0) charges) (pos (10 ^ 6))

-- the second moment: each term times the delay at its own node
abbrev pub second_moment : List RcRes → RcNode → List RcCap → RcNode → ℤ
second_moment ress root charges k =
    rounded (sum_of (λ c. shared_resistance ress root c.node k *ℤ c.cap.0 *ℤ elmore ress root charges c.node) charges) (pos (10 ^ 6))

abbrev pub not_negative : ℤ → ℤ
not_negative x = (if int_lt x (pos 0) then pos 0 else x)

abbrev pub impulse : List RcRes → RcNode → List RcCap → RcNode → ℤ
impulse ress root charges k =
    not_negative (pos 2 *ℤ second_moment ress root charges k -ℤ elmore ress root charges k *ℤ elmore ress root charges k)

-- the capacitance of a pin: that of the cell's pin in the split's library, or the port's load
abbrev pub port_load : List PortLoad → Split → List ℕ → ℤ
port_load loads split port =
    option_map_or (λ l. l.load.0) (find (λ l. bytes_eq l.port port && same_split l.split split) loads) (pos 0)

abbrev pub owner_cap : Design → Split → Option Inst → List ℕ → ℤ
owner_cap d split None own = port_load d.constraints.loads split own
owner_cap d split (Some inst) own =
    option_map_or (λ p. p.cap.0) (find (λ p. bytes_eq p.name own) (cell_pins (cell_of d split inst))) (pos 0)

abbrev pub pin_cap : Design → Split → Pin → ℤ
pin_cap d split pin = owner_cap d split pin.owner pin.own

abbrev pub rc_of : Design → List ℕ → Option NetRc
rc_of d net = find (λ rc. bytes_eq rc.net net) d.rcs

-- all capacitance of a net with parasitics: the ground capacitances, and each pin's at the pin
abbrev pub charges : Design → Split → NetRc → List RcCap
charges d split rc =
    rc.caps ++ map (λ pin. record { node = rc_pin (name_of pin); cap = record { 0 = pin_cap d split pin } }) (filter (is_on rc.net) (pins d))

abbrev pub rc_load : Design → Split → NetRc → ℤ
rc_load d split rc = rc.lump.0 +ℤ sum_of (λ c. c.cap.0) (charges d split rc)

-- the load of a net's driver: all capacitance of the net, or that of its sinks where it has no parasitics
abbrev pub net_load : Design → Split → List ℕ → ℤ
net_load d split net =
    option_map_or (rc_load d split) (rc_of d net) (sum_of (pin_cap d split) (sinks d net))

abbrev pub is_lumped : NetRc → Bool
is_lumped rc = nat_eq (length rc.ress) 0

-- the load of an output pin, 0 on no net
abbrev pub load_of : Design → Split → Option (List ℕ) → ℤ
load_of d split net = option_map_or (net_load d split) net (pos 0)

abbrev pub root_node : Pin → RcNode
root_node pin = rc_pin (name_of pin)

-- the delay of the wire from a net's driver to a sink
abbrev pub wire_delay : Design → Split → List ℕ → Pin → Pin → ℤ
wire_delay d split net from to =
    option_map_or (λ rc. elmore rc.ress (root_node from) (charges d split rc) (root_node to)) (rc_of d net) (pos 0)

-- the slew at a sink: it passes unchanged where there are no resistors
abbrev pub wire_slew : Design → Split → List ℕ → Pin → Pin → ℤ → ℤ
wire_slew d split net from to slew =
    option_map_or
    (λ rc. if is_lumped rc then slew else
    pos (root_of (nat_abs (slew *ℤ slew +ℤ impulse rc.ress (root_node from) (charges d split rc) (root_node to)))))
    (rc_of d net) slew
