-- How a live run begins, or is refused.
use Rattle.std.proofs.Common.{◌≡◌, ◌⊎◌, ℕ, true, List, [], Option, Some, None, Result, Ok, Err, length, inl, inr, refl, sym, ap, subst}
use Rattle.std.specs.Prelude.{IsSomeAnd, unwrap_or, is_some, MatchResult, IfErr, IfOk}
use Rattle.timing_defs.specs.declared.constraints.Derates.{Derates}
use Rattle.timing_defs.specs.declared.edits.Entry.{Entry}
use Rattle.sta_text.specs.declared.faults.Wrong.{Wrong}
use Rattle.sta_text.specs.Faults.{least_from}
use Rattle.command_words.specs.Asked.{RunWords}
use Rattle.session_engine.specs.Versions.{Versioned}
use Rattle.shell_core.specs.declared.documents.Role.{Role}
use Rattle.shell_core.specs.declared.documents.Role.TheVariants.{Journal}
use Rattle.shell_core.specs.declared.documents.Stop.{Stop}
use Rattle.shell_core.specs.declared.documents.Stop.TheVariants.{Refused as refused_at, Missing, Memory as no_room}
use Rattle.shell_core.specs.declared.documents.DesignDocuments.{DesignDocuments}
use Rattle.shell_core.specs.Documents.{Docs, Gives, Says, name_of, refusal_line}
use Rattle.shell_core.specs.Designs.{AreDesign, IsFetched, DesignStops, AreEntriesOf, JournalStops}
use Rattle.begun_version.specs.declared.beginning.Unbegun.{Unbegun}
use Rattle.begun_version.specs.declared.beginning.Unbegun.TheVariants.{Refused, Memory}
use Rattle.begun_version.specs.Beginning.{entries_in, BeginsWith, IsUnbegun}
use Rattle.live_journal.specs.Ends.{end_of}
use Rattle.live_server.specs.Serving.{IsBegun, IsJournalRefused, IsWholeSaved, JournalFails}
use Rattle.live_server.specs.Beginnings.{StartsRun, IsUnheld, TellsStop, AreWholeEntries, WholeStops}

-- the entries of a text behind which more may stand
pub entries_whole : (derates : Derates) (text : List ℕ) (saved : Option (List Entry)) → end_of text ≡ Ok tt → AreEntriesOf derates (Some text) saved
    → AreWholeEntries derates (Some text) saved
entries_whole derates text None whole said = absurd said
entries_whole derates text (Some entries) whole said = (said, whole)

-- the first fault of such a text
pub stops_whole : (derates : Derates) (text : List ℕ) (stop : Stop) → end_of text ≡ Ok tt → JournalStops derates (Some text) stop
    → WholeStops derates (Some text) stop
stops_whole derates text (refused_at role code place) whole why = (why.0, inr (whole, why.1))
stops_whole derates text (Missing role how) whole why = absurd why
stops_whole derates text no_room whole why = tt

module _ (holds : Docs) (run : RunWords) where
  -- the text that was fetched is that of the journal
  whole_at : (named text : Option (List ℕ)) (derates : Derates) (saved : Option (List Entry)) → run.journal ≡ named → IsFetched holds named text
      → AreWholeEntries derates text saved → IsWholeSaved holds run derates saved
  whole_at None None derates None is fetched said = is
  whole_at None None derates (Some entries) is fetched said = absurd said
  whole_at None (Some text) derates saved is fetched said = absurd fetched
  whole_at (Some name) None derates saved is fetched said = absurd fetched
  whole_at (Some name) (Some text) derates None is fetched said = absurd said
  whole_at (Some name) (Some text) derates (Some entries) is fetched said =
      let there : Gives holds (name_of run Journal) text = subst (λ n. Gives holds (unwrap_or n []) text) (sym is) fetched in
      (ap is_some is, (text, there, said))

  fails_at : (named text : Option (List ℕ)) (derates : Derates) (wrong : Wrong) → run.journal ≡ named → IsFetched holds named text
      → IsSomeAnd text (JournalFails derates wrong) → (is_some run.journal ≡ true) × Says holds (name_of run Journal) (JournalFails derates wrong)
  fails_at None None derates wrong is fetched why = absurd why
  fails_at None (Some text) derates wrong is fetched why = absurd fetched
  fails_at (Some name) None derates wrong is fetched why = absurd fetched
  fails_at (Some name) (Some text) derates wrong is fetched why =
      let there : Gives holds (name_of run Journal) text = subst (λ n. Gives holds (unwrap_or n []) text) (sym is) fetched in
      (ap is_some is, (text, there, why))

  -- a version that begins with the documents, behind their whole saved entries
  pub starts : (d : DesignDocuments) (text : Option (List ℕ)) (saved : Option (List Entry)) (v : Versioned) → AreDesign holds run d × IsFetched holds run.journal text
      → AreWholeEntries d.sdc.derates text saved → v.first ≡ length (entries_in saved) → v.journal ≡ [] → v.stored.design ≡ v.origin
      → BeginsWith d saved v.origin → StartsRun holds run v
  starts d text saved v read whole number journal stored begins =
      record {
        saved = entries_in saved;
        begun = record {
          docs = d;
          entries = saved;
          read = read.0;
          whole = whole_at run.journal text d.sdc.derates saved refl read.1 whole;
          begins = begins;
          saved_are = refl;
        };
        number = number;
        journal = journal;
        stored = stored;
      }

  module _ (f f' : ℕ) where
    -- documents of a design that were not read
    pub unread : (stop : Stop) (u : Unbegun) → DesignStops holds run f f' stop → TellsStop run stop u → IsUnheld holds run f f' u
    unread (refused_at role code place) (Refused end) why told =
        inl (told.0, why.1, (role, record { code = code; at = place }, why.0, told.1))
    unread (Missing role how) (Refused end) why told = inr (inl (told.0, (role, how, why, told.1)))
    unread no_room (Refused end) why told = absurd told
    unread stop Memory why told = tt

    -- a saved journal that has a fault
    pub unsaved : (d : DesignDocuments) (text : Option (List ℕ)) (stop : Stop) (u : Unbegun) → AreDesign holds run d × IsFetched holds run.journal text
        → f' ≡ f → WholeStops d.sdc.derates text stop → TellsStop run stop u → IsUnheld holds run f f' u
    unsaved d text (refused_at role code place) (Refused end) read quiet why told =
        let wrong : Wrong = record { code = code; at = place } in
        let at : (is_some run.journal ≡ true) × Says holds (name_of run Journal) (JournalFails d.sdc.derates wrong) =
        fails_at run.journal text d.sdc.derates wrong refl read.1 why.1 in
        inr (inr (inl (told.0, quiet, (wrong, (d, read.0, at.0, at.1), subst (λ (r : Role). end.text.items ≡ refusal_line r wrong) why.0 told.1))))
    unsaved d text (Missing role how) (Refused end) read quiet why told = absurd why
    unsaved d text no_room (Refused end) read quiet why told = absurd told
    unsaved d text stop Memory read quiet why told = tt

    -- a design that is refused, or a saved entry
    pub unbegun : (d : DesignDocuments) (text : Option (List ℕ)) (saved : Option (List Entry)) (u : Unbegun) → AreDesign holds run d × IsFetched holds run.journal text
        → f' ≡ f → AreWholeEntries d.sdc.derates text saved → IsUnbegun d saved u → IsUnheld holds run f f' u
    unbegun d text saved (Refused end) read quiet whole why =
        inr (inr (inr (why.0, quiet, (d, saved, read.0, whole_at run.journal text d.sdc.derates saved refl read.1 whole, why.1))))
    unbegun d text saved Memory read quiet whole why = tt

    -- the version with which a run begins, or its refusal
    pub begun_with : {V : Type 0} (of : V → Versioned) (r : Result V Unbegun) (d : DesignDocuments) (text : Option (List ℕ)) (saved : Option (List Entry))
        → AreDesign holds run d × IsFetched holds run.journal text → f' ≡ f → AreWholeEntries d.sdc.derates text saved
        → IfOk r (λ v. (of v).first ≡ length (entries_in saved)) → IfOk r (λ v. (of v).journal ≡ []) → IfOk r (λ v. (of v).stored.design ≡ (of v).origin)
        → IfOk r (λ v. BeginsWith d saved (of v).origin) → IfErr r (IsUnbegun d saved)
        → MatchResult r (λ v. StartsRun holds run (of v)) (IsUnheld holds run f f')
    begun_with of (Ok v) d text saved read quiet whole number journal stored begins refused = starts d text saved (of v) read whole number journal stored begins
    begun_with of (Err u) d text saved read quiet whole number journal stored begins refused = unbegun d text saved u read quiet whole refused

-- each side of what a call gives
pub given_ok : {T E : Type 0} (r : Result T E) (P : T → Type 0) (Q : E → Type 0) → MatchResult r P Q → IfOk r P
given_ok (Ok x) P Q h = h
given_ok (Err e) P Q h = tt

pub given_err : {T E : Type 0} (r : Result T E) (P : T → Type 0) (Q : E → Type 0) → MatchResult r P Q → IfErr r Q
given_err (Ok x) P Q h = tt
given_err (Err e) P Q h = h
