use Rattle.std.proofs.Common.{Ok}
use Rattle.std.specs.Fn.{FnReturnsAt}
use Rattle.std.proofs.lemmas.Result.{IfOk-at_ok}
use Rattle.level_workers.specs.Parts.{AreRuns}
use Rattle.level_workers.proofs.Joins.{ok_more}
use Rattle.level_workers.proofs.Pile.{runs-both}
use Rattle.level_workers.proofs.mapping.+pieces.Goals as goal

pub returns : goal.returns
returns g t c =
    let front = IfOk-at_ok (λ v. AreRuns (λ x r. FnReturnsAt g.F.Fn c.args.f.now x (Ok r)) c.args.items.now v.items) c.in_ok-found.was c.join-more.ensures.second in
    let back = IfOk-at_ok (λ v. AreRuns (λ x r. FnReturnsAt g.F.Fn c.args.f.now x (Ok r)) c.args.items.now v.items) c.in_ok-more.was c.join-more.ensures.first in
    ok_more c.joined.result
    (λ all e. runs-both (λ x r. FnReturnsAt g.F.Fn c.args.f.now x (Ok r)) c.args.items.now c.in_ok-found.found.items c.in_ok-more.more.items all.items front back e)
    c.joined.ensures
