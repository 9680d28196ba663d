use Rattle.std.proofs.Common.{◌≡◌, ◌+◌, List, [], ◌∷◌, ◌++◌, take, sym, ap, subst, ◌∙◌}
use Rattle.std.proofs.lemmas.List.{take_more}
use Rattle.timing_defs.specs.declared.reports.Candidate.{Candidate}
use Rattle.sizing_advisor.specs.Trying.{IsBest}
use Rattle.sizing_advisor.proofs.BestLaws.{best_with}
use Rattle.sizing_advisor.proofs.advising.best_in_turn.Goals as goal

pub loop-candidate-preserved : goal.loop-candidate-preserved
loop-candidate-preserved g c =
    let before : List Candidate = take c.loop-candidate.candidate-index c.args.candidates.now in
    let so : before ++ c.candidate-item.result ∷ [] ≡ take (c.loop-candidate.candidate-index + 1) c.args.candidates.now =
    ap (λ (x : Candidate). before ++ x ∷ []) c.candidate-item.is
    ∙ sym (take_more c.args.candidates.now c.loop-candidate.candidate-index c.candidate-item.result c.loop-candidate-test.true) in
    subst (λ (cs : List Candidate). IsBest c.args.base.now.store.now.design c.args.base.now.kind cs c.better-best.result c.args.steps.now c.value_of.new.steps) so
    (best_with c.args.base.now.store.now.design c.args.base.now.kind before c.loop-candidate.best c.args.steps.now c.loop-candidate.steps c.loop-candidate.invariant
    c.candidate-item.result c.in_ok-value.value c.better-best.result c.value_of.new.steps c.in_ok-value.ensures.value c.better-best.ensures
    c.in_ok-value.ensures.rises c.in_ok-value.ensures.counted)
