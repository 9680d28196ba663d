use Rattle.report_text.proofs.Joined.{on_ok, five}
use Rattle.report_text.proofs.timed.push_ended_line.Goals as goal

pub returns : goal.returns
returns c = on_ok c.push_end.result (λ last. five _ _ _ _ _ _ _ _ _ _ _ (c.in_ok-push.ensures) (c.in_ok-push_word.ensures) (c.in_ok-push_last_pin.ensures) (c.in_ok-push_path_head.ensures) last) c.push_end.ensures
