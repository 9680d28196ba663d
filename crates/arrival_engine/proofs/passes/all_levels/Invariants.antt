use Rattle.arrival_engine.specs.Analysed.{AreDoneBelow, AreDelayedBelow}
use Rattle.arrival_engine.proofs.passes.all_levels.Given as goal

abbrev pub invariant-loop-at : goal.invariant-loop-at
invariant-loop-at g l = AreDoneBelow l.graph l.rows l.at × AreDelayedBelow l.graph l.delays l.at
