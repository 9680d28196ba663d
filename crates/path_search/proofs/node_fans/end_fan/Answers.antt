use Rattle.std.proofs.Common.{arith}
use Rattle.path_search.proofs.NodeForms.{net_bounded}
use Rattle.path_search.proofs.node_fans.end_fan.Goals as goal

pub returns-clause-net : goal.returns-clause-net
returns-clause-net g c = c.node_fan.ensures

pub returns-clause-bounded : goal.returns-clause-bounded
returns-clause-bounded g c =
    net_bounded _ _ _ _ _ _ _ c.node_fan.result c.node_fan.ensures c.laws.ensures.numbered c.laws.ensures.linked c.laws-2.ensures c.bounded.ensures
    (let e = c.level.ensures in let f = c.if-level.false in omega (arith, e, f))
