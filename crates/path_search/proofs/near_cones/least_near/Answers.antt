use Rattle.std.proofs.Common.{◌≡◌, rules, subst, FitsSigned, w64, to_z, of_z}
use Rattle.std.proofs.lemmas.Int.{to_z-of_z}
use Rattle.bounded_slack.specs.Nets.{IsLeastOfTwo}
use Rattle.path_search.proofs.NearForms.{nothing_near, some_near}
use Rattle.path_search.proofs.near_cones.least_near.Goals as goal

pub returns-in-None : goal.returns-in-None
returns-in-None g c =
    nothing_near (g.F.Fan.net c.args.one.now) (g.F.Fan.net c.args.other.now)
    (subst (IsLeastOfTwo (g.F.Fan.net c.args.one.now) (g.F.Fan.net c.args.other.now)) c.in-None.is c.in_ok-slack.ensures)

pub returns-in_ok-nodes-in-Some : goal.returns-in_ok-nodes-in-Some
returns-in_ok-nodes-in-Some g c =
    let f : FitsSigned w64 c.in-Some.least = search rules in
    let same : to_z w64 (of_z w64 c.in-Some.least) ≡ c.in-Some.least = simp to_z-of_z in
    some_near (g.F.Fan.net c.args.one.now) (g.F.Fan.net c.args.other.now) c.in-Some.least (to_z w64 (of_z w64 c.in-Some.least)) same c.in_ok-nodes-in-Some.nodes
    (subst (IsLeastOfTwo (g.F.Fan.net c.args.one.now) (g.F.Fan.net c.args.other.now)) c.in-Some.is c.in_ok-slack.ensures) c.in_ok-nodes-in-Some.ensures
