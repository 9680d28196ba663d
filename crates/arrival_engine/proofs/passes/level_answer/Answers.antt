use Rattle.std.proofs.Common.{rules}
use Rattle.arrival_engine.proofs.PassLaws.{ready_there, answer_given}
use Rattle.arrival_engine.proofs.passes.level_answer.Goals as goal

pub evaluated-requires-clause-ready : goal.evaluated-requires-clause-ready
evaluated-requires-clause-ready g c =
    ready_there c.args.graph.now c.args.setting.now.store.now c.requires.plan.same c.laws.ensures.numbered c.laws.ensures.linked c.laws-2.ensures
    c.args.rows.now c.args.level c.args.node c.requires.done (search rules) (search rules)

pub returns : goal.returns
returns g c = λ low here. (answer_given c.args.graph.now c.args.node c.evaluated.result c.evaluated.ensures.row c.evaluated.ensures.delays c.evaluated.ensures.err, c.evaluated.ensures.steps)
