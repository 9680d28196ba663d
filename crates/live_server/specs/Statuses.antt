-- The status of a live run: the greatest of its sessions, of its journal and of its last line.

use Rattle.std.specs.Prelude.{ℕ, max, Bool, true, false, List, [], ◌∷◌, Result, Ok, Err}
use Rattle.live_journal.specs.declared.desks.Unkept.{Unkept}
use Rattle.live_journal.specs.declared.desks.Unkept.TheVariants.{Failed, Memory}
use Rattle.live_session.specs.declared.replies.TalkEnd.{TalkEnd}
use Rattle.live_session.specs.declared.replies.TalkEnd.TheVariants.{Closed, Deaf, Mute, Unkept as unkept, Wanting, Full}
use Rattle.live_run.specs.declared.ended.Parted.{Parted}

-- of a session: 0 where all replies are answers, 1 where one is not, 4 where its input failed, 5 where its output or the journal did, 6 for want of
-- memory or of a number for a command
abbrev pub end_status : Bool → TalkEnd → ℕ
end_status true Closed = 0
end_status false Closed = 1
end_status clean Deaf = 4
end_status clean Mute = 5
end_status clean unkept = 5
end_status clean Wanting = 6
end_status clean Full = 6

-- of sessions: the greatest of theirs
abbrev pub sessions_status : {D : Type 0} → List (Parted D) → ℕ
sessions_status [] = 0
sessions_status (session ∷ sessions) = max (end_status session.outcome.clean session.outcome.end) (sessions_status sessions)

-- of a journal's file: 5 where a put failed, 6 where memory was wanting to put what it lacks
abbrev pub kept_status : Result Unit Unkept → ℕ
kept_status (Ok done) = 0
kept_status (Err Failed) = 5
kept_status (Err Memory) = 6
