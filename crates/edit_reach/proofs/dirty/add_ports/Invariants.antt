use Rattle.std.proofs.Common.{◌≡◌, ◌++◌, take}
use Rattle.std.specs.List.{filter_map}
use Rattle.edit_reach.specs.Besides.{port_under}
use Rattle.edit_reach.proofs.dirty.add_ports.Given as goal

abbrev pub invariant-loop-node : goal.invariant-loop-node
invariant-loop-node l = l.pins ≡ l.initial.pins ++ filter_map (port_under l.store) (take l.node-index l.nodes)
