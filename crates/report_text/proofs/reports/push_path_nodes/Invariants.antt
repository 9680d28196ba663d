use Rattle.std.proofs.Common.{◌≡◌, ◌++◌, drop}
use Rattle.std.specs.List.{flat_map}
use Rattle.timing_defs.specs.Output.{path_node_text}
use Rattle.report_text.proofs.reports.push_path_nodes.Given as goal

abbrev pub invariant-loop-node : goal.invariant-loop-node
invariant-loop-node l =
    l.out.items ++ flat_map path_node_text (drop l.node-index l.nodes) ≡ l.initial.out.items ++ flat_map path_node_text l.nodes
