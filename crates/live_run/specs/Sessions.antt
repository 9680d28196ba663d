-- What live sessions beside each other leave: each hands back its seat, and at its door it held the conversation of the commands that it
-- answered.

use Rattle.std.specs.Prelude.{ℕ, ◌≡◌, ◌+◌, Bool, true, List, [], ◌∷◌, Option, Some, None, ⊤}
use Rattle.timing_defs.specs.declared.design.Design.{Design}
use Rattle.timing_defs.specs.declared.edits.Entry.{Entry}
use Rattle.timing_defs.specs.declared.scripts.Command.{Command}
use Rattle.timing_defs.specs.declared.scripts.Row.{Row}
use Rattle.timing_defs.specs.declared.scripts.Script.{Script}
use Rattle.timing_defs.specs.declared.scripts.Transcript.{Transcript}
use Rattle.version_board.specs.Callers.{Standing, Sitting, IsSeatOf, IsSame, IsNew}
use Rattle.session_engine.specs.Versions.{Versioned}
use Rattle.session_engine.specs.Looking.{meant}
use Rattle.live_doors.specs.declared.door.Lost.{Lost}
use Rattle.live_doors.specs.declared.door.Lost.TheVariants.{Input, Output, Memory}
use Rattle.live_doors.specs.Doors.{IsUntouched}
use Rattle.live_session.specs.declared.replies.Manner.{Manner}
use Rattle.live_session.specs.declared.replies.TalkEnd.{TalkEnd}
use Rattle.live_session.specs.declared.replies.TalkEnd.TheVariants.{Deaf, Mute, Wanting}
use Rattle.live_session.specs.Talks.{AtDoor, Telling, telling, Talked, Exactly}
use Rattle.seated_session.specs.Seated.{HasRun}
use Rattle.live_run.specs.declared.ended.Parted.{Parted}
use Rattle.live_run.specs.declared.ended.Ended.{Ended}

-- a door that was just opened: these lines are to come, where they are told, and nothing was done
pub record IsOpened (lines : Option (List (List ℕ))) (start : AtDoor) : Type 0 where
  pub left : start.left ≡ lines
  pub trace : IsUntouched start.trace
  pub faults : start.faults ≡ 0

-- how a session ends whose door was not opened, by what the hall lacked
abbrev pub unopened_end : Lost → TalkEnd
unopened_end Input = Deaf
unopened_end Output = Mute
unopened_end Memory = Wanting

-- no door was opened, for a reason that the hall may have for it
abbrev pub IsUnopened : (Lost → Type 0) → TalkEnd → Type 0
IsUnopened denies end = (lost : Lost) × denies lost × (end ≡ unopened_end lost)

-- the reasons of one hall are among those of another
abbrev pub Denies : (ℕ → Lost → Type 0) → (ℕ → Lost → Type 0) → Type 0
Denies one other = (seat : ℕ) (lost : Lost) → one seat lost → other seat lost

module _ {D : Type 0} where
  -- what a session leaves that was run by these commands, with these rows: from its door's opening on it held the conversation of
  -- them, as `told` tells of the door; without a door, which the hall denied, there were none
  abbrev pub IsParted : (D → AtDoor) → Option (List (List ℕ)) → (Lost → Type 0) → Telling → List Command → List Row → Option D → Bool → TalkEnd → Type 0
  IsParted told lines denies way commands rows (Some door) clean end =
      (start : AtDoor) × IsOpened lines start × Talked (Exactly commands rows) way start (told door) clean end
  IsParted told lines denies way commands rows None clean end =
      (commands ≡ []) × (rows ≡ []) × IsUnopened denies end × (clean ≡ true)

  -- a session that began at the seat `s` hands back that seat, with the commands that it ran
  pub record HandsBack {B : _} (told : D → AtDoor) (lines : ℕ → Option (List (List ℕ))) (denies : ℕ → Lost → Type 0) (manner : Manner)
      (s : Sitting Entry Design) (e : Ended D B) : Type 0 where
    pub same : IsSame s e.seat
    pub commands : List Command
    pub rows : List Row
    pub ran : HasRun e.seat.view commands rows
    pub left : IsParted told (lines s.view.number) (denies s.view.number) (telling e.receipt.upto e.receipt.torn manner) commands rows e.parted.door e.parted.outcome.clean e.parted.outcome.end

  -- each of them does, in order
  abbrev pub EachHandsBack : {B : _} → (D → AtDoor) → (ℕ → Option (List (List ℕ))) → (ℕ → Lost → Type 0) → Manner → List (Sitting Entry Design) → List (Ended D B) → Type 0
  EachHandsBack told lines denies manner [] [] = ⊤
  EachHandsBack told lines denies manner (s ∷ seats) (e ∷ ended) = HandsBack told lines denies manner s e × EachHandsBack told lines denies manner seats ended
  EachHandsBack told lines denies manner seats ended = ⊥

  -- the sessions, numbered from `n`, by the scripts of their commands and the transcripts of their rows
  abbrev pub EachParted : (D → AtDoor) → (ℕ → Option (List (List ℕ))) → (ℕ → Lost → Type 0) → Telling → ℕ → List Script → List Transcript → List (Parted D) → Type 0
  EachParted told lines denies way n [] [] [] = ⊤
  EachParted told lines denies way n (script ∷ scripts) (t ∷ ts) (p ∷ parted) =
      IsParted told (lines n) (denies n) way script.commands t.rows p.door p.outcome.clean p.outcome.end
      × EachParted told lines denies way (n + 1) scripts ts parted
  EachParted told lines denies way n scripts ts parted = ⊥

-- new seats of a board, numbered from `n`
abbrev pub AreNew : Standing Versioned → ℕ → List (Sitting Entry Design) → Type 0
AreNew b n [] = ⊤
AreNew b n (s ∷ seats) = IsNew n s × IsSeatOf meant b s × AreNew b (n + 1) seats
