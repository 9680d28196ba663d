use Rattle.report_text.proofs.Joined.{on_ok, four}
use Rattle.report_text.proofs.timed.push_edge_part.Goals as goal

pub returns : goal.returns
returns c = on_ok c.push_end.result (λ last. four _ _ _ _ _ _ _ _ _ (c.in_ok-push.ensures) (c.in_ok-push_edge.ensures) (c.in_ok-push_ps.ensures) last) c.push_end.ensures
