use Rattle.std.proofs.Common.{ℕ, subst}
use Rattle.level_workers.proofs.Joins.{ok_more}
use Rattle.arrival_engine.specs.Analysed.{IsLevelAnswer}
use Rattle.arrival_engine.proofs.PassLaws.{map_weaker}
use Rattle.arrival_engine.proofs.passes.all_counted.Goals as goal

pub returns : goal.returns
returns g c =
    ok_more c.map_level.result
    (λ rs m. map_weaker _ (IsLevelAnswer c.args.graph.now c.args.level)
    (λ x r k. subst (λ (n : ℕ). IsLevelAnswer c.args.graph.now c.args.level n r) k.shows k.says.met) c.args.nodes.now rs m)
    c.map_level.ensures
