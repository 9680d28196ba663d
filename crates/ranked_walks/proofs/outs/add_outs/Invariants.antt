use Rattle.std.proofs.Common.{◌≡◌, drop, length}
use Rattle.worst_walks.specs.Walks.{count_of}
use Rattle.ranked_walks.specs.Outs.{listed}
use Rattle.ranked_walks.proofs.outs.add_outs.Given as goal

abbrev pub invariant-loop-arc : goal.invariant-loop-arc
invariant-loop-arc l =
    record {
      long : length l.outs.items ≡ count_of l.cone;
      lists : listed l.node l.outs.items (drop l.arc-index l.arcs) ≡ listed l.node l.initial.outs.items l.arcs;
    }
