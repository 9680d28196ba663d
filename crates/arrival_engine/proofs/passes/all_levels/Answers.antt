use Rattle.std.proofs.Common.{[], ◌∙◌}
use Rattle.std.proofs.lemmas.List.{get_or_default}
use Rattle.arrival_engine.proofs.PassLaws.{of_level}
use Rattle.arrival_engine.proofs.passes.all_levels.Goals as goal

pub put_answers-requires-clause-nodes : goal.put_answers-requires-clause-nodes
put_answers-requires-clause-nodes g c =
    of_level c.args.graph.now c.args.levels.now c.loop-at.at c.as_slice-nodes.result.now c.requires.levels
    (c.as_slice-nodes.ensures ∙ c.index-levels-at.is ∙ get_or_default c.args.levels.now c.loop-at.at c.index-levels-at.result [] c.loop-at-test.true)
