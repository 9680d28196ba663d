use Rattle.std.proofs.Common.{drop, sym, ◌∙◌}
use Rattle.timed_paths.proofs.CreditLaws.{common_short}
use Rattle.timed_paths.proofs.credits.last_common.Goals as goal

pub returns-then-at-walk : goal.returns-then-at-walk
returns-then-at-walk c =
    sym (common_short c.loop-at.last (drop c.loop-at.at c.args.path.now) c.args.walk.now c.loop-at.at c.if-at-walk.true) ∙ c.loop-at.invariant
