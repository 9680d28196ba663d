use Rattle.std.proofs.Common.{Ok}
use Rattle.std.specs.Fn.{FnReturnsAt}
use Rattle.level_workers.proofs.Joins.{ok_more}
use Rattle.level_workers.proofs.Pile.{runs-longer, runs-more}
use Rattle.level_workers.proofs.runs.with_block.Goals as goal

pub returns-then-last-from : goal.returns-then-last-from
returns-then-last-from g c =
    ok_more c.pushed-then-last-from.result
    (λ all e. runs-longer (λ x r. FnReturnsAt g.F.Fn c.args.f.now x (Ok r)) c.args.items.now c.args.runs.items c.pop.new.self.items c.in-Some.last c.in_ok-longer.field-0 all.items
    c.in-Some.ensures.items c.requires.runs c.in_ok-longer.ensures.map e)
    c.pushed-then-last-from.ensures

pub returns : goal.returns
returns g c =
    ok_more c.pushed-3.result
    (λ all e. runs-more (λ x r. FnReturnsAt g.F.Fn c.args.f.now x (Ok r)) c.args.items.now c.args.runs.items c.pop.new.self.items c.in_ok-pushed.field-0.items c.in-Some.last c.in_ok-fresh-2.field-0 all.items
    c.in-Some.ensures.items c.in_ok-pushed.ensures c.requires.runs c.in_ok-fresh-2.ensures.map e)
    c.pushed-3.ensures
