use Rattle.std.proofs.Common.{rules}
use Rattle.sta_outside.proofs.Streams.{written_more}
use Rattle.sta_outside.proofs.std_sink.write_whole.Goals as goal

pub loop-preserved : goal.loop-preserved
loop-preserved g c =
    (search rules, written_more _ _ _ _ _ _ c.loop.invariant.1 c.in_ok-at.ensures.bytes)
