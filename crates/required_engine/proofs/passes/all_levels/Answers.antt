use Rattle.std.proofs.Common.{◌-◌, ◌<◌, [], length, ◌∙◌, arith}
use Rattle.std.proofs.lemmas.List.{get_or_default}
use Rattle.required_engine.proofs.PassLaws.{of_level}
use Rattle.required_engine.proofs.passes.all_levels.Goals as goal

pub put_rows-requires-clause-nodes : goal.put_rows-requires-clause-nodes
put_rows-requires-clause-nodes g c κs within =
    let some = c.loop-left-test.true in
    let most = c.loop-left.invariant.1 in
    let low : c.loop-left.left - 1 < length c.args.levels.now = omega (arith, some, most) in
    of_level c.args.graph.now c.args.levels.now (c.loop-left.left - 1) c.as_slice-nodes.result.now c.requires.levels
    (c.as_slice-nodes.ensures ∙ c.index-levels-left.is ∙ get_or_default c.args.levels.now (c.loop-left.left - 1) c.index-levels-left.result [] low)
