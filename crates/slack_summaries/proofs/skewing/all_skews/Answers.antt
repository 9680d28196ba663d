use Rattle.std.proofs.Common.{◌<◌, List, length, ap, subst, ◌∙◌}
use Rattle.timing_defs.specs.declared.constraints.Constraints.{Constraints}
use Rattle.slack_summaries.proofs.SkewLaws.{clock_put}
use Rattle.slack_summaries.proofs.skewing.all_skews.Goals as goal

pub loop-at-preserved : goal.loop-at-preserved
loop-at-preserved c =
    clock_put c.args.search.now.store.now.design c.args.search.now.store.now.design.constraints.clocks c.loop-at.at c.loop-at.skews c.add_clock.new.skews
    (subst (λ n. c.loop-at.at < n) (c.len-at-end.ensures ∙ ap (λ (k : Constraints). length k.clocks) c.constraints.ensures) c.loop-at-test.true) c.loop-at.invariant
    c.in_ok-add_clock.ensures
