use Rattle.std.proofs.Common.{◌≡◌, ◌+◌, List, [], ◌∷◌, drop, sym, ap, subst, ◌∙◌}
use Rattle.std.proofs.lemmas.List.{drop_more, drop_all}
use Rattle.timing_defs.specs.declared.reports.Trial.{Trial}
use Rattle.timing_defs.specs.declared.reports.TrialRow.{TrialRow}
use Rattle.what_if.specs.Layers.{AreSoFar}
use Rattle.what_if.proofs.DraftLaws.{one_so_far, all_so_far}
use Rattle.what_if.proofs.trials.push_rows.Goals as goal

pub loop-trial-preserved : goal.loop-trial-preserved
loop-trial-preserved g c = λ snapshot begun.
    let left : drop c.loop-trial.trial-index c.args.trials.now ≡ c.trial-item.result ∷ drop (c.loop-trial.trial-index + 1) c.args.trials.now =
    drop_more c.args.trials.now c.loop-trial.trial-index c.trial-item.result c.loop-trial-test.true
    ∙ ap (λ (t : Trial). t ∷ drop (c.loop-trial.trial-index + 1) c.args.trials.now) (sym c.trial-item.is) in
    subst (λ (rows : List TrialRow). AreSoFar snapshot c.args.trials.now (drop (c.loop-trial.trial-index + 1) c.args.trials.now) rows c.row_of.new.draft)
    (sym c.in_ok-push.ensures.ok)
    (one_so_far snapshot c.args.trials.now c.trial-item.result (drop (c.loop-trial.trial-index + 1) c.args.trials.now) c.loop-trial.rows c.in_ok-row.row
    c.loop-trial.draft c.row_of.new.draft
    (subst (λ (rest : List Trial). AreSoFar snapshot c.args.trials.now rest c.loop-trial.rows c.loop-trial.draft) left (c.loop-trial.invariant snapshot begun))
    c.in_ok-row.ensures)

pub returns : goal.returns
returns g c = λ snapshot begun.
    all_so_far snapshot c.args.trials.now c.loop-trial.rows c.loop-trial.draft
    (subst (λ (rest : List Trial). AreSoFar snapshot c.args.trials.now rest c.loop-trial.rows c.loop-trial.draft)
    (drop_all c.loop-trial.trial-index c.args.trials.now c.loop-trial-test.false) (c.loop-trial.invariant snapshot begun))
