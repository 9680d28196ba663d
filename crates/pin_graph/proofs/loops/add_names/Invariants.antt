use Rattle.std.proofs.Common.{◌≡◌, ◌++◌, take}
use Rattle.pin_graph.proofs.loops.add_names.Given as goal

abbrev pub invariant-loop-name : goal.invariant-loop-name
invariant-loop-name l = l.all ≡ l.initial.all ++ take l.name-index l.names
