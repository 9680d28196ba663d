use Rattle.arrival_engine.proofs.PassLaws.{plan_of}
use Rattle.arrival_engine.proofs.nodes.eval_node.Goals as goal

pub evaluated-requires-clause-plan : goal.evaluated-requires-clause-plan
evaluated-requires-clause-plan g c =
    plan_of c.setting-setting.result c.args.graph.now c.args.store.now c.args.rows.now c.setting-setting.ensures.store c.setting-setting.ensures.wires c.setting-setting.ensures.ports
    c.requires.tables c.requires.graph
