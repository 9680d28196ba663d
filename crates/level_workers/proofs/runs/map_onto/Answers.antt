use Rattle.std.proofs.Common.{Ok}
use Rattle.std.specs.Fn.{FnReturnsAt}
use Rattle.level_workers.proofs.Joins.{onto-more, returned_at}
use Rattle.level_workers.proofs.runs.map_onto.Goals as goal

pub loop-item-preserved : goal.loop-item-preserved
loop-item-preserved g c =
    onto-more (λ x r. FnReturnsAt g.F.Fn c.args.f.now x (Ok r)) c.args.items.now c.loop-item.item-index c.item-item.result c.args.before c.loop-item.results c.push.new.self c.in_ok-found.found
    c.loop-item-test.true c.item-item.is c.loop-item.invariant (returned_at g.F.Fn c.args.f.now _ _ c.in_ok-found.ensures) c.in_ok-push.ensures.ok
