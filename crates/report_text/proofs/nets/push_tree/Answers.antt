use Rattle.report_text.proofs.Joined.{on_ok, four}
use Rattle.report_text.proofs.nets.push_tree.Goals as goal

pub returns : goal.returns
returns c =
    on_ok c.push_resistance.result
    (λ last. four _ _ _ _ _ _ _ _ _ (c.in_ok-push.ensures) (c.in_ok-push_number.ensures) (c.in_ok-push-2.ensures) last)
    c.push_resistance.ensures
