use Rattle.std.proofs.Common.{◌≡◌, map, drop}
use Rattle.timing_rules.specs.Paths.{nodes_cmp}
use Rattle.design_paths.proofs.NodeLists.{name_of_node}
use Rattle.design_paths.proofs.comparing.nodes_order.Given as goal

abbrev pub invariant-loop-place : goal.invariant-loop-place
invariant-loop-place l =
    nodes_cmp (map name_of_node (drop l.place l.one)) (map name_of_node (drop l.place l.other))
    ≡ nodes_cmp (map name_of_node l.one) (map name_of_node l.other)
