use Rattle.std.proofs.Common.{sym, ◌∙◌}
use Rattle.std.proofs.lemmas.Result.{on_ok_weaker}
use Rattle.clock_summaries.proofs.CaptureLaws.{put_end}
use Rattle.clock_summaries.proofs.captures.add_pin.Goals as goal

pub returns-in_ok-one : goal.returns-in_ok-one
returns-in_ok-one c =
    on_ok_weaker c.push.result
    (put_end c.args.search.now.store.now c.args.kind c.args.pin c.args.captured.now c.push.new.self c.in_ok-one.one (sym c.is_end.ensures ∙ c.if-is_end.true) c.in_ok-one.ensures)
    c.push.ensures.ok
