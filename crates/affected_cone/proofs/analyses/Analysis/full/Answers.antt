use Rattle.affected_cone.proofs.FoundLaws.{found_analysis}
use Rattle.affected_cone.proofs.analyses.Analysis.full.Goals as goal

pub invariant_of-result : goal.invariant_of-result
invariant_of-result g c =
    found_analysis c.args.store.now c.args.graph c.in-Ok.found c.requires.graph c.requires.sound c.laws.ensures.numbered c.laws.ensures.linked c.laws-2.ensures
    c.in-Ok.ensures.found
