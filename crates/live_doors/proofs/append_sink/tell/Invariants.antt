-- the bytes before the place are told
use Rattle.std.proofs.Common.{◌≡◌, ◌++◌, take}
use Rattle.live_doors.specs.Marks.{put_bytes}
use Rattle.live_doors.proofs.append_sink.tell.Given as goal

abbrev pub invariant-loop-byte : goal.invariant-loop-byte
invariant-loop-byte l = put_bytes l.told.items ≡ put_bytes l.initial.told.items ++ take l.byte-index l.bytes
