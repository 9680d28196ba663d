use Rattle.affected_cone.proofs.BoundLaws.{some_told}
use Rattle.affected_cone.proofs.SearchLaws.{ok_more}
use Rattle.affected_cone.proofs.bounds.stands_alone.Goals as goal

pub returns-in-Some : goal.returns-in-Some
returns-in-Some c =
    ok_more c.is_alone.result (λ is h yes. some_told _ c.args.weighed.now.carried c.in-Some.carried c.in-Some.is (h yes)) c.is_alone.ensures
