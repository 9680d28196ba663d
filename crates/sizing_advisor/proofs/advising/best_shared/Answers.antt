use Rattle.std.proofs.Common.{◌≡◌, length, ap, ◌∙◌, rules}
use Rattle.sizing_advisor.proofs.SharedLaws.{far_begun, far_next}
use Rattle.sizing_advisor.proofs.advising.best_shared.Goals as goal

pub loop-candidate-init : goal.loop-candidate-init
loop-candidate-init g c =
    let long : c.into_vec.result.len ≡ length c.into_vec.result.items = search rules in
    far_begun c.args.base.now.store.now.design c.args.base.now.kind c.args.candidates.now c.args.steps.now c.into_iter-candidate-iterator.result.a.rest.now
    c.into_iter-candidate-iterator.result.b.rest.items c.in_ok-trials.trials c.into_iter-candidate-iterator.result.b.rest.len c.in_ok-trials.ensures
    (ap (λ z. z.a.rest.now) c.into_iter-candidate-iterator.ensures.into_iter_gives ∙ ap (λ i. i.rest.now) c.zip-candidate-items.ensures.first ∙ c.iter.ensures.rest)
    (ap (λ z. z.b.rest.items) c.into_iter-candidate-iterator.ensures.into_iter_gives ∙ c.zip-candidate-items.ensures.second.0 ∙ c.into_vec.ensures)
    (ap (λ z. z.b.rest.len) c.into_iter-candidate-iterator.ensures.into_iter_gives ∙ c.zip-candidate-items.ensures.second.1 ∙ long ∙ ap length c.into_vec.ensures)

pub loop-candidate-preserved : goal.loop-candidate-preserved
loop-candidate-preserved g c =
    far_next c.args.base.now.store.now.design c.args.base.now.kind c.args.candidates.now c.loop-candidate.best c.better-best.result c.args.steps.now c.loop-candidate.steps c.add.new.self
    c.loop-candidate.candidate-iterator.b.rest.len c.next.new.self.b.rest.len c.in-Some.candidate.now c.loop-candidate.candidate-iterator.a.rest.now
    c.next.new.self.a.rest.now c.in-Some.trial c.loop-candidate.candidate-iterator.b.rest.items c.next.new.self.b.rest.items c.in-Some.ensures.steps
    c.loop-candidate.invariant c.better-best.ensures c.add.ensures
