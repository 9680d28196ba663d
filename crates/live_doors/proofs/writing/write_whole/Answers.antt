use Rattle.std.proofs.Common.{rules}
use Rattle.live_doors.proofs.Streams.{written_more}
use Rattle.live_doors.proofs.writing.write_whole.Goals as goal

pub loop-preserved : goal.loop-preserved
loop-preserved g c = (search rules, written_more _ _ _ _ _ _ c.loop.invariant.1 c.in-Ok.ensures.bytes)
