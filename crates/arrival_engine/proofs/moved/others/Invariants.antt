use Rattle.std.proofs.Common.{◌≡◌, filter, take}
use Rattle.arrival_engine.specs.Updated.{is_other}
use Rattle.arrival_engine.proofs.moved.others.Given as goal

abbrev pub invariant-loop-node : goal.invariant-loop-node
invariant-loop-node l = l.found ≡ filter (is_other l.both.base.now.stored l.both.graph.now.stored l.both.before.now) (take l.node-index l.nodes)
