-- How a live run ends whose sessions were held.
use Rattle.std.proofs.Common.{◌≡◌, ◌⊎◌, ℕ, max, Bool, true, false, List, [], ◌++◌, Option, Some, None, Result, length, inl, inr, refl, sym, ap, subst}
use Rattle.std.specs.Prelude.{is_some, option_map}
use Rattle.std.proofs.lemmas.List.{append-nil}
use Rattle.sta_outside.specs.Sink.{Appends}
use Rattle.timing_defs.specs.declared.constraints.Derates.{Derates}
use Rattle.timing_defs.specs.declared.design.Design.{Design}
use Rattle.timing_defs.specs.declared.edits.Entry.{Entry}
use Rattle.timing_defs.specs.declared.scripts.Totals.{Totals}
use Rattle.timing_defs.specs.Output.{final_text}
use Rattle.timing_rules.specs.Reports.{AreTotals}
use Rattle.command_words.specs.Asked.{RunWords}
use Rattle.session_engine.specs.Versions.{Versioned, IsVersion}
use Rattle.shell_core.specs.Documents.{Docs}
use Rattle.live_doors.specs.declared.door.Lost.{Lost}
use Rattle.live_journal.specs.declared.desks.Unkept.{Unkept}
use Rattle.live_session.specs.Talks.{AtDoor}
use Rattle.live_run.specs.declared.ended.Parted.{Parted}
use Rattle.live_run.specs.Runs.{AtFile, file_of, IsLiveRun, manner_of}
use Rattle.live_server.specs.Statuses.{sessions_status, kept_status}
use Rattle.live_server.specs.Serving.{Out, out_at, IsStill, IsFinal, TellsLine, TellsFinal, IsRefused, IsHeld, LiveEnds}
use Rattle.live_server.specs.Endings.{TellsTotals, LeavesLine}
use Rattle.live_server.specs.Beginnings.{StartsRun}

-- nothing was written
pub still : (written : Option (List ℕ)) → Appends written written []
still None = tt
still (Some text) = sym (append-nil text)

-- a journal is named where its name's text is
pub named : {A B : Type 0} (f : A → B) (o : Option A) → is_some (option_map f o) ≡ is_some o
named f None = refl
named f (Some x) = refl

-- the line of the totals of a last version
final_of : (v : Versioned) (totals : Totals) → IsVersion v → AreTotals v.stored.design v.number totals → IsFinal v.origin v.first v.journal (final_text totals)
final_of v totals is are =
    (v.stored.design, totals, is.accepted, subst (λ (n : ℕ). AreTotals v.stored.design n totals) is.number are, refl)

pub line_left : (v : Versioned) (old new : Out) (meant status : ℕ) → IsVersion v → TellsTotals v old new meant status → LeavesLine v old new meant status
line_left v old new meant status is told = (final_text told.0, final_of v told.0 is told.1, told.2)

module _ {D F : Type 0} (told : D → AtDoor) (lines : ℕ → Option (List (List ℕ))) (denies : ℕ → Lost → Type 0) (holds : Docs) (run : RunWords) (old new : Out) where
  -- sessions over a version that begins a run are held over its origin
  is_held : (journal : Option F) (v last : Versioned) (before after : AtFile) (sessions : List (Parted D)) (kept : Result Unit Unkept) (line : List ℕ)
      (status asked_for : ℕ) → length sessions ≡ asked_for → is_some run.journal ≡ is_some journal → StartsRun holds run v
      → IsLiveRun told lines denies (manner_of v journal) v.origin v.first last.journal before after v.stored.design.constraints.derates sessions kept
      → last.first ≡ v.first → last.origin ≡ v.origin → IsFinal last.origin last.first last.journal line
      → TellsFinal old new line (max (sessions_status sessions) (kept_status kept)) status
      → IsHeld told lines denies (is_some journal) asked_for holds run before after old new sessions status
  is_held journal v last before after sessions kept line status asked_for many named starts live first origin final tells =
      let J : List Entry = last.journal in
      let keeps : Bool = is_some journal in
      let over : IsLiveRun told lines denies (record { clocks = v.origin.constraints.clocks; keeps = keeps }) v.origin v.first J before after v.origin.constraints.derates sessions kept =
      subst (λ (d : Design). IsLiveRun told lines denies (record { clocks = d.constraints.clocks; keeps = keeps }) v.origin v.first J before after d.constraints.derates sessions kept)
      starts.stored live in
      let at : IsFinal v.origin v.first J line =
      subst (λ (n : ℕ). IsFinal v.origin n J line) first (subst (λ (d : Design). IsFinal d last.first J line) origin final) in
      record {
        many = many;
        named = named;
        initial = v.origin;
        saved = starts.saved;
        begun = starts.begun;
        J = J;
        kept = kept;
        held = subst
            (λ (n : ℕ). IsLiveRun told lines denies (record { clocks = v.origin.constraints.clocks; keeps = keeps }) v.origin n J before after v.origin.constraints.derates sessions kept)
            starts.number over;
        line = line;
        final = subst (λ (n : ℕ). IsFinal v.origin n J line) starts.number at;
        out = tells;
      }

module _ {D F : Type 0} {told : D → AtDoor} {lines : ℕ → Option (List (List ℕ))} {denies : ℕ → Lost → Type 0} (holds : Docs) (f f' : ℕ) (run : RunWords) where
  -- the end of a run whose sessions were held
  pub held_ends : (old new : Out) (journal : Option F) (v last : Versioned) {before after : AtFile} {sessions : List (Parted D)} {kept : Result Unit Unkept}
      {status asked_for : ℕ} {after' : AtFile} {sessions' : List (Parted D)} → length sessions ≡ asked_for → is_some run.journal ≡ is_some journal
      → StartsRun holds run v
      → IsLiveRun told lines denies (manner_of v journal) v.origin v.first last.journal before after v.stored.design.constraints.derates sessions kept
      → last.first ≡ v.first → last.origin ≡ v.origin → LeavesLine last old new (max (sessions_status sessions) (kept_status kept)) status
      → sessions' ≡ sessions → after' ≡ after → LiveEnds told lines denies (is_some journal) asked_for holds f f' run before after' old new sessions' status
  held_ends old new journal v last {before} {after} {sessions} {kept} {status} {asked_for} {after'} {sessions'} many named starts live first origin left same_sessions same_after =
      let held : IsHeld told lines denies (is_some journal) asked_for holds run before after old new sessions status =
      is_held told lines denies holds run old new journal v last before after sessions kept left.0 status asked_for many named starts live first origin left.1 left.2 in
      let over : IsHeld told lines denies (is_some journal) asked_for holds run before after' old new sessions status =
      subst (λ (a : AtFile). IsHeld told lines denies (is_some journal) asked_for holds run before a old new sessions status) (sym same_after) held in
      inr (inr (inl (subst (λ (all : List (Parted D)). IsHeld told lines denies (is_some journal) asked_for holds run before after' old new all status) (sym same_sessions) over)))

  -- the end of a run whose journal is named and is not there to be written
  pub unwritten : (written : F → Option (List ℕ)) (failures : F → ℕ) (written_out : Option (List ℕ)) (faults : ℕ) (journal journal' : Option F) (v : Versioned) (sessions : List (Parted D)) (status asked_for : ℕ) → StartsRun holds run v
      → is_some journal ≡ false → is_some run.journal ≡ true → journal' ≡ journal → sessions ≡ [] → status ≡ 5
      → LiveEnds told lines denies (is_some journal) asked_for holds f f' run (file_of written failures journal) (file_of written failures journal') (out_at written_out faults) (out_at written_out faults) sessions status
  unwritten written failures written_out faults journal journal' v sessions status asked_for starts absent is_named same none is =
      inr (inl (none, ap (file_of written failures) same, absent, is_named, (v.origin, starts.saved, starts.begun), is, (still written_out, refl)))

  -- the end of a run that is refused
  pub refused_ends : (written : F → Option (List ℕ)) (failures : F → ℕ) (old new : Out) (journal journal' : Option F) (keeps : Bool) (meant : ℕ) (line line' : List ℕ) (sessions : List (Parted D)) (status status' asked_for : ℕ)
      → IsRefused holds f f' run meant line → line' ≡ line → TellsLine old new line' meant status → journal' ≡ journal → sessions ≡ [] → status' ≡ status
      → LiveEnds told lines denies keeps asked_for holds f f' run (file_of written failures journal) (file_of written failures journal') old new sessions status'
  refused_ends written failures old new journal journal' keeps meant line line' sessions status status' asked_for why text tells same none is =
      let told_line : TellsLine old new line meant status = subst (λ (l : List ℕ). TellsLine old new l meant status) text tells in
      inl (none, ap (file_of written failures) same, (meant, line, why, subst (λ (n : ℕ). TellsLine old new line meant n) (sym is) told_line))
