-- What comes of an item that has no reply, and of nothing that was done at a door.

use Rattle.std.proofs.Common.{ℕ, true, List, [], refl, sym, inl, append-nil}
use Rattle.std.specs.Prelude.{Option, Some, None, Err}
use Rattle.timing_defs.specs.declared.scripts.Command.{Command}
use Rattle.timing_defs.specs.declared.scripts.Row.{Row}
use Rattle.live_doors.specs.Doors.{Deed, Loses, Grows}
use Rattle.script_reader.specs.declared.live.Item.{Item}
use Rattle.live_session.specs.declared.replies.TalkEnd.{TalkEnd}
use Rattle.live_session.specs.declared.replies.TalkEnd.TheVariants.{Closed, Deaf, Mute, Unkept, Wanting, Full}
use Rattle.live_session.specs.Talks.{Telling, AtDoor}
use Rattle.live_session.specs.Turns.{IsQuiet, Answers, Replies}

left_same : (a : Option (List (List ℕ))) → Loses a a []
left_same None = tt
left_same (Some x) = refl

trace_same : (a : Option (List Deed)) → Grows a a []
trace_same None = tt
trace_same (Some x) = sym (append-nil x)

quiet_same : (door : AtDoor) → IsQuiet door door
quiet_same door = (left_same door.left, trace_same door.trace, refl)

-- an item has no reply: nothing is told
pub unanswered : (Ran Ran' : List Command → List Row → Type 0) (way : Telling) (item : Item) (door : AtDoor) (end : TalkEnd) → Answers Ran Ran' item (Err end)
    → Replies Ran Ran' way (Some item) door door true (Some end)
unanswered Ran Ran' way item door Wanting a = inl (a, quiet_same door, refl)
unanswered Ran Ran' way item door Full a = (a.0, a.1, a.2, quiet_same door, refl)
unanswered Ran Ran' way item door Closed a = absurd a
unanswered Ran Ran' way item door Deaf a = absurd a
unanswered Ran Ran' way item door Mute a = absurd a
unanswered Ran Ran' way item door Unkept a = absurd a
