-- The end of a live run: its desk beside its sessions.

use Rattle.std.specs.Prelude.{ℕ, ◌≡◌, ◌+◌, ◌-◌, ◌≤◌, Bool, true, false, List, [], ◌∷◌, length, Option, Some, None, Result, Ok, Err, ⊤}
use Rattle.timing_defs.specs.declared.constraints.Derates.{Derates}
use Rattle.timing_defs.specs.declared.design.Design.{Design}
use Rattle.timing_defs.specs.declared.edits.Entry.{Entry}
use Rattle.atomic_table.specs.Seated.{TableId}
use Rattle.version_board.specs.Callers.{Standing, Sitting}
use Rattle.session_engine.specs.Versions.{Versioned}
use Rattle.session_engine.specs.Looking.{meant}
use Rattle.eco_journal.specs.Blocks.{blocks_text}
use Rattle.live_journal.specs.declared.desks.Unkept.{Unkept}
use Rattle.live_journal.specs.declared.desks.Unkept.TheVariants.{Failed, Memory}
use Rattle.live_journal.specs.declared.sinks.JournalSink.{JournalSink}
use Rattle.live_journal.specs.declared.sinks.JournalSink.TheVariants.{File, Nowhere}
use Rattle.live_journal.specs.Desk.{Setting, IsBoardOf, PutsRest, RestBlamed, single}
use Rattle.live_run.specs.declared.ended.Parted.{Parted}
use Rattle.live_run.specs.declared.ended.Ended.{Ended}
use Rattle.live_run.specs.Runs.{AtFile, at_file}

-- the desk's board is this one, its seat is the last of it, behind those of so many sessions
pub record IsDeskOf (s : Setting Design) (b : Standing Versioned) (sessions : ℕ) : Type 0 where
  pub board : IsBoardOf meant s b
  pub number : s.number ≡ sessions + 1
  pub seats : b.seats ≡ sessions + 1

-- what the desk of a board is tied to whose seat is the one behind so many sessions
abbrev pub setting_of : Standing Versioned → ℕ → AtFile → Derates → TableId → Setting Design
setting_of b sessions before derates cell = record {
  table = b.id;
  first = b.opening.first;
  origin = Some b.opening.origin;
  number = sessions + 1;
  before = before.text;
  faults = before.faults;
  derates = derates;
  cell = cell;
}

module _ {D : Type 0} where
  abbrev pub seat_left : {B : _} → Ended D B → Sitting Entry Design
  seat_left e = e.seat

  abbrev pub parted_left : {B : _} → Ended D B → Parted D
  parted_left e = e.parted

  -- what each session knows of the journal is so: all entries up to a number stand there, and a put failed
  abbrev pub AreConfirmed : {B : _} → ℕ → Bool → List (Ended D B) → Type 0
  AreConfirmed kept sound [] = ⊤
  AreConfirmed kept sound (e ∷ ended) =
      (e.receipt.upto ≤ kept) × (e.receipt.torn ≡ true → sound ≡ false) × AreConfirmed kept sound ended

-- without a file there is nothing to give; it is told whether each put went well
abbrev pub IsSettled : Bool → Result Unit Unkept → Type 0
IsSettled sound (Ok done) = sound ≡ true
IsSettled sound (Err Failed) = sound ≡ false
IsSettled sound (Err Memory) = ⊥

-- the file as it was when the desk began
abbrev pub file_before : Setting Design → AtFile
file_before s = at_file s.before s.faults

-- the file is given what it lacks
abbrev pub Settles : {F : Type 0} → (F → Option (List ℕ)) → (F → ℕ) → Derates → ℕ → List Entry → ℕ → Bool
    → JournalSink F → Option F → Result Unit Unkept → Type 0
Settles written faults d first J kept sound Nowhere None result = IsSettled sound result
Settles written faults d first J kept sound Nowhere (Some file) result = ⊥
Settles written faults d first J kept sound (File old) None result = ⊥
Settles written faults d first J kept sound (File old) (Some new) result =
    PutsRest (λ from es. blocks_text d from (single es)) first J (kept - first) sound (written old) (written new) result
    × RestBlamed sound (faults old) (faults new) result
