use Rattle.node_rows.specs.Between.{no_values}
use Rattle.node_rows.proofs.ArcLaws.{IsPassing}
use Rattle.node_rows.proofs.arcs.arc_values.Given as goal

abbrev pub invariant-loop-arc : goal.invariant-loop-arc
invariant-loop-arc l = IsPassing l.split l.slew l.load l.ends l.arcs no_values l.best l.arc-index
