use Rattle.report_text.proofs.Joined.{on_ok, four}
use Rattle.report_text.proofs.timed.push_parts.Goals as goal

pub returns : goal.returns
returns c = on_ok c.push_part-3.result (λ last. four _ _ _ _ _ _ _ _ _ (c.in_ok-push_addends.ensures) (c.in_ok-push_part.ensures) (c.in_ok-push_part-2.ensures) last) c.push_part-3.ensures
