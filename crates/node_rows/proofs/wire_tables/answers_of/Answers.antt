use Rattle.std.proofs.Common.{ℕ, subst}
use Rattle.level_workers.proofs.Joins.{ok_more}
use Rattle.node_rows.specs.FoundNets.{IsNetAnswer}
use Rattle.node_rows.proofs.FoundLaws.{weaker}
use Rattle.node_rows.proofs.wire_tables.answers_of.Goals as goal

pub returns : goal.returns
returns g c =
    ok_more c.map_level.result
    (λ rs m. weaker (IsNetAnswer c.args.store.now) _
    (λ x r k. subst (λ (n : ℕ). IsNetAnswer c.args.store.now n r) k.shows k.says.met) c.args.nets.now rs m)
    c.map_level.ensures
