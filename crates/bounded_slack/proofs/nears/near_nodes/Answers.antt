use Rattle.std.proofs.Common.{rules, FitsSigned, w64, ℤ, subst}
use Rattle.std.specs.Prelude.{IfOk}
use Rattle.std.proofs.lemmas.Int.{to_z-of_z}
use Rattle.bounded_slack.specs.Nears.{AreNear}
use Rattle.bounded_slack.proofs.nears.near_nodes.Goals as goal

pub returns : goal.returns
returns g c =
    let net = g.F.Fan.net c.args.fan.now in
    let fits : FitsSigned w64 c.args.most = search rules in
    subst (λ (z : ℤ). IfOk c.nodes_within.result (AreNear net z)) (to_z-of_z w64 c.args.most fits) c.nodes_within.ensures
