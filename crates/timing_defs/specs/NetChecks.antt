-- The checks of a design that need its netlist and parasitics alone: too large, many drivers, parasitics that are no tree or
-- whose pins differ. Names are the least by bytes.

use Rattle.std.specs.Prelude.{ℕ, nat_lt, Bool, true, false, not, ◌&&◌, ◌||◌, if◌then◌else◌, List, [], ◌∷◌, ◌++◌, map, filter, length, Option, Some, None, option_map, is_some}
use Rattle.std.specs.List.{list_any, list_all, flat_map}
use Rattle.std.specs.Option.{option_map_or}
use Rattle.std.specs.Ordering.{nat_cmp, is_lt}
use Rattle.std.specs.Cmp.Lexicographic.{slice_cmp}
use Rattle.timing_defs.specs.declared.parasitics.RcNode.{RcNode}
use Rattle.timing_defs.specs.declared.parasitics.RcNode.TheVariants.{Pin as rc_pin, Inner as rc_inner}
use Rattle.timing_defs.specs.declared.parasitics.NetRc.{NetRc}
use Rattle.timing_defs.specs.declared.design.Design.{Design}
use Rattle.timing_defs.specs.declared.faults.Fault.{Fault}
use Rattle.timing_defs.specs.declared.faults.Fault.TheVariants.{ManyDrivers, TooLarge}
use Rattle.timing_defs.specs.declared.faults.Large.{Large}
use Rattle.timing_defs.specs.declared.faults.Large.TheVariants.{Pins, Insts, Nets, Net as large_net}
use Rattle.timing_defs.specs.Netlist.{Pin, pins, pin_named, is_on, drivers, driver}
use Rattle.timing_defs.specs.Wires.{same_rc, each_with_rest, path_between, is_lumped, root_node}

abbrev pub is_before : List ℕ → List ℕ → Bool
is_before a b = is_lt (slice_cmp nat_cmp a b)

-- the least name of a list by bytes
abbrev pub lesser : Option (List ℕ) → List ℕ → Option (List ℕ)
lesser None b = Some b
lesser (Some a) b = (if is_before b a then Some b else Some a)

abbrev pub least_from : Option (List ℕ) → List (List ℕ) → Option (List ℕ)
least_from best [] = best
least_from best (x ∷ xs) = least_from (lesser best x) xs

abbrev pub least : List (List ℕ) → Option (List ℕ)
least names = least_from None names

-- too large: more than 200,000 pins, instances or nets, or more than 65,535 nodes of a net with parasitics
abbrev pub most : ℕ
most = 200000

abbrev pub named_nodes : NetRc → List RcNode
named_nodes rc = flat_map (λ r. r.a ∷ r.b ∷ []) rc.ress ++ map (λ c. c.node) rc.caps

abbrev pub nodes_of_rc : Design → NetRc → List RcNode
nodes_of_rc d rc =
    (if is_lumped rc then map root_node (filter (is_on rc.net) (pins d)) ++ named_nodes rc else named_nodes rc)

abbrev pub different : List RcNode → List RcNode → ℕ
different before [] = length before
different before (n ∷ ns) = (if list_any (same_rc n) before then different before ns else different (n ∷ before) ns)

abbrev pub is_large_net : Design → NetRc → Bool
is_large_net d rc = nat_lt 65535 (different [] (nodes_of_rc d rc))

abbrev pub nets_where : (NetRc → Bool) → Design → List (List ℕ)
nets_where test d = map (λ rc. rc.net) (filter test d.rcs)

abbrev pub large : Design → Option Large
large d =
    (if nat_lt most (length (pins d)) then Some Pins else
    (if nat_lt most (length d.insts) then Some Insts else
    (if nat_lt most (length d.nets) then Some Nets else
    option_map large_net (least (nets_where (is_large_net d) d)))))

abbrev pub many_drivers : Design → Option (List ℕ)
many_drivers d = least (filter (λ net. nat_lt 1 (length (drivers d net))) d.nets)

-- a net with resistors is a tree over all its named nodes, rooted at the driver; no net with
-- parasitics is without a driver
abbrev pub has_cycle : NetRc → Bool
has_cycle rc = list_any (λ (r, rest). is_some (path_between rest r.a r.b)) (each_with_rest [] rc.ress)

abbrev pub reaches_all : NetRc → Pin → Bool
reaches_all rc root = list_all (λ node. is_some (path_between rc.ress (root_node root) node)) (named_nodes rc)

abbrev pub is_tree : Design → NetRc → Bool
is_tree d rc = option_map_or (λ root. is_lumped rc || (not (has_cycle rc) && reaches_all rc root)) (driver d rc.net) false

-- each named pin is on the net, and where there are resistors each pin of the net is a node of one
abbrev pub is_pin_of : Design → List ℕ → RcNode → Bool
is_pin_of d net (rc_pin name) = option_map_or (is_on net) (pin_named d name) false
is_pin_of d net (rc_inner k) = true

abbrev pub has_resistor : NetRc → Pin → Bool
has_resistor rc pin = list_any (λ r. same_rc r.a (root_node pin) || same_rc r.b (root_node pin)) rc.ress

abbrev pub pins_agree : Design → NetRc → Bool
pins_agree d rc =
    list_all (is_pin_of d rc.net) (named_nodes rc)
    && (is_lumped rc || list_all (has_resistor rc) (filter (is_on rc.net) (pins d)))

-- the first of several faults that stand
abbrev pub first_of_two : Option Fault → Option Fault → Option Fault
first_of_two a b = option_map_or Some a b

abbrev pub net_fault : Design → Option Fault
net_fault d = first_of_two (option_map TooLarge (large d)) (option_map ManyDrivers (many_drivers d))
