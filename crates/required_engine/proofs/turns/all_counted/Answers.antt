use Rattle.std.proofs.Common.{ℕ, subst}
use Rattle.level_workers.proofs.Joins.{ok_more}
use Rattle.required_engine.specs.Worked.{IsCountedAt}
use Rattle.required_engine.proofs.PassLaws.{map_weaker}
use Rattle.required_engine.proofs.turns.all_counted.Goals as goal

pub returns : goal.returns
returns g c =
    ok_more c.map_level.result
    (λ rs m. map_weaker _ (IsCountedAt c.args.graph.now c.args.level)
    (λ x r k. subst (λ (n : ℕ). IsCountedAt c.args.graph.now c.args.level n r) k.shows k.says.met) c.args.nodes.now rs m)
    c.map_level.ensures
