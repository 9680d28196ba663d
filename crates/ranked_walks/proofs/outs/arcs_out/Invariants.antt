use Rattle.ranked_walks.specs.Outs.{AreListed}
use Rattle.ranked_walks.proofs.outs.arcs_out.Given as goal

abbrev pub invariant-loop-node : goal.invariant-loop-node
invariant-loop-node l = AreListed l.cone l.node l.outs.items
