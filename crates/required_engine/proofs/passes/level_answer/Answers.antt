use Rattle.std.proofs.Common.{rules}
use Rattle.required_engine.proofs.PassLaws.{ready_there, answer_there}
use Rattle.required_engine.proofs.passes.level_answer.Goals as goal

pub evaluated-requires-clause-ready : goal.evaluated-requires-clause-ready
evaluated-requires-clause-ready g c =
    ready_there c.args.graph.now c.args.store.now c.requires.graph c.laws.ensures.numbered c.laws.ensures.linked c.laws-2.ensures
    c.args.rows.now c.args.level c.args.node c.requires.done (search rules) (search rules)

pub returns : goal.returns
returns g c = λ low here.
    (answer_there c.args.graph.now c.args.store.now c.requires.graph c.args.node c.evaluated.result c.evaluated.ensures.row c.evaluated.ensures.err, c.evaluated.ensures.steps)
