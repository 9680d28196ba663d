use Rattle.std.proofs.Common.{rules, ◌≡◌, ◌++◌, Ok, ap, ◌∙◌, length}
use Rattle.std.specs.Fn.{FnReturnsAt}
use Rattle.std.specs.List.{slice_range}
use Rattle.std.proofs.lemmas.List.{take_rest}
use Rattle.level_workers.proofs.Joins.{ok_more, onto-end}
use Rattle.level_workers.proofs.Pile.{far-start, far-more, far-same}
use Rattle.level_workers.proofs.runs.in_order.Goals as goal

pub loop-run-init : goal.loop-run-init
loop-run-init g c =
    let left : c.into_iter-run-iterator.result.rest.items ≡ c.sort_unstable_by_key.new.self.items = search rules in
    far-start (λ x r. FnReturnsAt g.F.Fn c.args.f.now x (Ok r)) c.args.items.now c.args.runs.items c.sort_unstable_by_key.new.self.items c.into_iter-run-iterator.result.rest.items c.new-all.result.items
    c.sort_unstable_by_key.ensures.permutation left c.new-all.ensures.items c.requires.runs

pub loop-run-preserved-then-run-at : goal.loop-run-preserved-then-run-at
loop-run-preserved-then-run-at g c =
    far-more (λ x r. FnReturnsAt g.F.Fn c.args.f.now x (Ok r)) c.args.items.now c.loop-run.at c.loop-run.all.items c.in_ok-all.all.items c.loop-run.run-iterator.rest.items c.next.new.self.rest.items c.in-Some.run'
    c.in-Some.ensures.steps.0 c.if-run-at.true (c.in_ok-all.ensures ∙ ap (λ ys. c.loop-run.all.items ++ ys) c.into_vec.ensures) c.loop-run.invariant

pub loop-run-preserved : goal.loop-run-preserved
loop-run-preserved g c =
    far-same (λ x r. FnReturnsAt g.F.Fn c.args.f.now x (Ok r)) c.args.items.now c.loop-run.at c.loop-run.all.items c.loop-run.run-iterator.rest.items c.next.new.self.rest.items c.in-Some.run'
    c.in-Some.ensures.steps.0 c.loop-run.invariant

pub returns : goal.returns
returns g c =
    ok_more c.map_onto.result
    (λ all q. onto-end (λ x r. FnReturnsAt g.F.Fn c.args.f.now x (Ok r)) c.args.items.now (slice_range c.args.items.now c.loop-run.at (length c.args.items.now)) c.loop-run.at
    c.loop-run.all.items c.from_vec.result all c.from_vec.ensures (take_rest c.args.items.now c.loop-run.at) c.loop-run.invariant.1 q)
    c.map_onto.ensures
