use Rattle.std.proofs.Common.{◌≡◌, rules, FitsSigned, w64, to_z, of_z}
use Rattle.std.proofs.lemmas.Int.{to_z-of_z}
use Rattle.path_search.proofs.NearForms.{near_lists}
use Rattle.path_search.proofs.near_cones.near_of_two.Goals as goal

pub returns : goal.returns
returns g c =
    let f : FitsSigned w64 c.args.most = search rules in
    let same : to_z w64 (of_z w64 c.args.most) ≡ c.args.most = simp to_z-of_z in
    near_lists (g.F.Fan.net c.args.one.now) (g.F.Fan.net c.args.other.now) c.args.most (to_z w64 (of_z w64 c.args.most)) same c.in_ok-first.first c.in_ok-second.second c.as_slice.result.now
    c.in_ok-first.ensures c.in_ok-second.ensures c.as_slice.ensures c.joined.result c.joined.ensures
