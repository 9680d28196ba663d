use Rattle.required_engine.specs.Behinds.{over_behind}
use Rattle.required_engine.proofs.TimeLaws.{AreTimed}
use Rattle.required_engine.proofs.times.required_times.Given as goal

abbrev pub invariant-loop-arrival : goal.invariant-loop-arrival
invariant-loop-arrival l = AreTimed (over_behind l.store.design l.split l.behind) l.arrived l.times l.arrival-index
