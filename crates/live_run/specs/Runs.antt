-- What a live run leaves: one journal for all sessions, the conversation of each, and the file.

use Rattle.std.specs.Prelude.{ℕ, ◌≡◌, ◌+◌, ◌<◌, ◌≤◌, Bool, true, false, List, length, Option, Some, None, is_some, Result, Ok, Err}
use Rattle.timing_defs.specs.declared.constraints.Derates.{Derates}
use Rattle.timing_defs.specs.declared.design.Design.{Design}
use Rattle.timing_defs.specs.declared.edits.Entry.{Entry}
use Rattle.timing_defs.specs.declared.scripts.Script.{Script}
use Rattle.timing_defs.specs.declared.scripts.Transcript.{Transcript}
use Rattle.timing_rules.specs.Sessions.{IsWhole}
use Rattle.session_engine.specs.Versions.{Versioned}
use Rattle.live_journal.specs.declared.desks.Unkept.{Unkept}
use Rattle.live_journal.specs.declared.desks.Unkept.TheVariants.{Failed, Memory}
use Rattle.live_journal.specs.Desk.{HasFile, IsBlamed}
use Rattle.live_doors.specs.declared.door.Lost.{Lost}
use Rattle.live_session.specs.declared.replies.Manner.{Manner}
use Rattle.live_session.specs.Talks.{AtDoor, telling}
use Rattle.live_run.specs.declared.ended.Parted.{Parted}
use Rattle.live_run.specs.Sessions.{EachParted}

-- what a journal's file tells: its bytes, where there is one that tells them, and how many puts into it failed
pub record AtFile : Type 0 where
  pub text : Option (List ℕ)
  pub faults : ℕ

abbrev pub at_file : Option (List ℕ) → ℕ → AtFile
at_file text faults = record { text = text; faults = faults }

abbrev pub file_of : {F : Type 0} → (F → Option (List ℕ)) → (F → ℕ) → Option F → AtFile
file_of written faults None = at_file None 0
file_of written faults (Some file) = at_file (written file) (faults file)

-- how replies are told in a run from this version on: with a mark for each row where there is a journal
abbrev pub manner_of : {F : Type 0} → Versioned → Option F → Manner
manner_of v journal = record { clocks = v.stored.design.constraints.clocks; keeps = is_some journal }

-- whether all entries stand in the file at the end, and each put went well: `Memory` says that some do not stand there, for want of memory
abbrev pub IsKeptAll : List Entry → ℕ → Bool → Result Unit Unkept → Type 0
IsKeptAll J count sound (Ok done) = (count ≡ length J) × (sound ≡ true)
IsKeptAll J count sound (Err Failed) = sound ≡ false
IsKeptAll J count sound (Err Memory) = (sound ≡ true) × (count < length J)

-- sessions beside each other over an initial design, behind `first` saved entries: by the commands that each of them read, and the rows that
-- each of them answered, they are a whole run over J. The file is what it was, and then the blocks of the first entries of J, up to a number
-- `upto` at least, and no row of a number above `upto` was told where a journal is kept. Where a put failed the file's count of faults rose
pub record IsLiveRun {D : Type 0} (told : D → AtDoor) (lines : ℕ → Option (List (List ℕ))) (denies : ℕ → Lost → Type 0) (manner : Manner) (initial : Design) (first : ℕ) (J : List Entry)
    (before after : AtFile) (derates : Derates) (parted : List (Parted D)) (kept : Result Unit Unkept) : Type 0 where
  pub scripts : List Script
  pub ts : List Transcript
  pub whole : IsWhole initial first scripts J ts
  pub upto : ℕ
  pub count : ℕ
  pub sound : Bool
  pub torn : Bool
  pub each : EachParted told lines denies (telling upto torn manner) 1 scripts ts parted
  pub high : upto ≤ first + count
  pub broken : torn ≡ true → sound ≡ false
  pub file : HasFile before.text after.text derates first J count sound
  pub blamed : IsBlamed sound before.faults after.faults
  pub all : IsKeptAll J count sound kept
