-- The order of nodes by the names of their pins, over the numbers of nodes, and the way back from a node.

use Rattle.std.specs.Prelude.{ℕ, zero, suc, ◌+◌, ◌-◌, nat_lt, if◌then◌else◌, List, [], ◌∷◌, ◌++◌, map, length, slice_index, count_by}
use Rattle.std.specs.List.{range_with_len}
use Rattle.std.specs.Option.{option_map_or, unwrap_or}
use Rattle.std.specs.Ordering.{nat_cmp, ordering_then, is_lt}
use Rattle.std.specs.declared.cmp.Ordering.{Ordering}
use Rattle.std.specs.Cmp.Lexicographic.{slice_cmp}
use Rattle.netlist_store.specs.Numbering.{Stored, name_at}
use Rattle.pin_graph.specs.Nodes.{node_bound, pin_under}
use Rattle.pin_graph.specs.Graphs.{Graphed, fan_at, level_at}
use Rattle.node_tests.specs.Walks.{first_from}

-- how many numbers below a bound come before one
abbrev pub rank_by : (ℕ → ℕ → Ordering) → ℕ → ℕ → ℕ
rank_by cmp bound n = count_by (λ m. is_lt (cmp m n)) (range_with_len 0 bound)

-- the name of a node's pin; a number of no node has none
abbrev pub pin_name_at : Stored → ℕ → List ℕ
pin_name_at s node = unwrap_or (name_at s.pins (pin_under node)) []

-- by the bytes of the name, then by the number: of one pin the rise node has the lesser one
abbrev pub number_cmp : Stored → ℕ → ℕ → Ordering
number_cmp s a b = ordering_then (slice_cmp nat_cmp (pin_name_at s a) (pin_name_at s b)) (nat_cmp a b)

unfoldable pub rank_at : Stored → ℕ → ℕ
rank_at s node = rank_by (number_cmp s) (node_bound s) node

-- the nodes on the way back from a node by the first arc into each, from the uppermost on: as many as levels at most
abbrev pub climb_within : Graphed → ℕ → ℕ → List ℕ
climb_within g zero node = []
climb_within g (suc most) node = option_map_or (λ from. climb_within g most from ++ from ∷ []) (first_from (fan_at g.ins node)) []

unfoldable pub climb : Graphed → ℕ → List ℕ
climb g node = climb_within g (level_at g node) node

-- places of a list of nodes are numbered before all nodes: the number of the node that such a number stands for
abbrev pub node_of : List ℕ → ℕ → ℕ
node_of nodes n = (if nat_lt n (length nodes) then slice_index nodes n else n - length nodes)

abbrev pub place_rank : Stored → List ℕ → ℕ → ℕ
place_rank s nodes n = rank_at s (node_of nodes n)

abbrev pub places_before : Graphed → List ℕ → ℕ → List ℕ
places_before g nodes n = map (λ node. length nodes + node) (climb g (node_of nodes n))
