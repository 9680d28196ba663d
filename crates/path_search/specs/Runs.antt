-- Runs of clock network nodes, each joined to the next, and what a timing graph tells of its design.

use Rattle.std.specs.Prelude.{◌≡◌, true, ⊤, if◌then◌else◌, List, [], ◌∷◌, ◌++◌, length, Contains, Option, Some, None, option_map}
use Rattle.timing_defs.specs.declared.design.Design.{Design}
use Rattle.timing_defs.specs.Netlist.{Pin, Node, name_of, pins, nodes, pin_named}
use Rattle.timing_defs.specs.Wires.{first_some}
use Rattle.timing_rules.specs.Clocking.{is_network, is_clock_port}
use Rattle.timing_rules.specs.Rows.{arcs_in, step, row}
use Rattle.timing_rules.specs.Tests.{walk_within}
use Rattle.timing_rules.specs.Checks.{clock_not_tree}
use Rattle.netlist_store.specs.Linked.{IsLinked}

-- an arc leads to a node of the clock network
pub record IsNext (d : Design) (from to : Node) : Type 0 where
  pub within : Contains (pins d) to.pin
  pub network : is_network d to.pin ≡ true
  pub arc : Contains (arcs_in d to) from

-- each node is joined to the next, and all but the first are told to be of the network
abbrev pub AreSteps : Design → Node → List Node → Type 0
AreSteps d n [] = ⊤
AreSteps d n (m ∷ ms) = IsNext d n m × AreSteps d m ms

abbrev pub end_of : Node → List Node → Node
end_of n [] = n
end_of n (m ∷ ms) = end_of m ms

-- one node more at the end of a walk, and a walk by those of the nodes before
abbrev pub longer : Node → Option (List Node) → Option (List Node)
longer node walk = option_map (λ w. w ++ node ∷ []) walk

abbrev pub next_walk : Design → (Node → Option (List Node)) → Node → Option (List Node)
next_walk d f node = (if is_clock_port d node.pin then Some (node ∷ []) else first_some (λ from. longer node (f from)) (arcs_in d node))

-- names of pins tell them apart, rows and walks are by those of the nodes before, and the clock network is a tree
pub record IsTimed (d : Design) : Type 0 where
  pub linked : IsLinked d
  pub tree : clock_not_tree d ≡ None
  pub found : (p : Pin) → Contains (pins d) p → pin_named d (name_of p) ≡ Some p
  pub before : (to : Node) → Contains (pins d) to.pin → (from : Node) → Contains (arcs_in d to) from → Contains (pins d) from.pin
  pub stepped : (n : Node) → Contains (pins d) n.pin → row d n ≡ step d (row d) n
  pub walked : (n : Node) → Contains (pins d) n.pin → walk_within d (length (nodes d)) n ≡ next_walk d (walk_within d (length (nodes d))) n

-- a walk over the clock network from a clock port's node to a node
pub record IsNetworkWalk (d : Design) (walk : List Node) (end : Node) : Type 0 where
  pub first : Node
  pub rest : List Node
  pub begins : walk ≡ first ∷ rest
  pub port : is_clock_port d first.pin ≡ true
  pub network : is_network d first.pin ≡ true
  pub within : Contains (pins d) first.pin
  pub steps : AreSteps d first rest
  pub ends : end_of first rest ≡ end
