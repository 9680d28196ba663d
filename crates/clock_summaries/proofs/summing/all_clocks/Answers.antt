use Rattle.std.proofs.Common.{◌<◌, length, ap, subst, ◌∙◌}
use Rattle.timing_defs.specs.declared.constraints.Constraints.{Constraints}
use Rattle.clock_summaries.proofs.SummaryLaws.{clock_put}
use Rattle.clock_summaries.proofs.summing.all_clocks.Goals as goal

pub loop-at-preserved : goal.loop-at-preserved
loop-at-preserved c =
    clock_put c.args.store.now.design.constraints.clocks c.args.captured.now c.loop-at.at c.loop-at.rows c.push.new.self c.clock_row.result
    (subst (λ n. c.loop-at.at < n) (c.len-at-end.ensures ∙ ap (λ (k : Constraints). length k.clocks) c.constraints.ensures) c.loop-at-test.true) c.loop-at.invariant
    c.clock_row.ensures c.in_ok-push.ensures.ok
