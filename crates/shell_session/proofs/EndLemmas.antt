-- How a run ends, and what stands at the sink then.
use Rattle.std.proofs.Common.{◌≡◌, ◌⊎◌, ℕ, ◌≤◌, true, false, List, [], Option, Some, None, Result, Ok, Err, refl, sym, ap, ◌∙◌, subst, inl, inr, append-nil}
use Rattle.std.specs.Prelude.{IfOk}
use Rattle.std.proofs.lemmas.Bool.{false≢true}
use Rattle.sta_outside.specs.Shelf.{Rose}
use Rattle.sta_outside.specs.Sink.{Appends, AppendsPrefix}
use Rattle.timing_defs.specs.declared.design.Design.{Design}
use Rattle.timing_defs.specs.declared.faults.Fault.{Fault}
use Rattle.timing_defs.specs.declared.faults.Fault.TheVariants.{Memory as no_room}
use Rattle.timing_defs.specs.declared.scripts.Script.{Script}
use Rattle.timing_rules.specs.Checks.{Faulty}
use Rattle.timing_defs.specs.declared.codes.Code.{Code}
use Rattle.command_words.specs.Asked.{RunWords, GenerateWords, Words}
use Rattle.command_words.specs.Asked.{run as run_asked, generate as generate_asked}
use Rattle.shell_core.specs.declared.documents.Role.{Role}
use Rattle.shell_core.specs.declared.documents.How.{How}
use Rattle.shell_core.specs.declared.documents.Stop.TheVariants.{Refused, Missing}
use Rattle.shell_core.specs.declared.documents.Documents.{Documents}
use Rattle.shell_core.specs.declared.ends.End.{End}
use Rattle.sta_units.specs.declared.units.Memory.{Memory}
use Rattle.shell_core.specs.Documents.{Docs, sources, name_of, Stops, AreDocuments, words_line, design_line, refusal_line, shelf_line}
use Rattle.shell_core.specs.Kept.{AreKept}
use Rattle.design_link.specs.Documents.{AreDocuments as AreLinkable}
use Rattle.eco_analysis.specs.Soundness.{IsUnsound}
use Rattle.shell_core.specs.Answers.{is_wanting}
use Rattle.shell_session.specs.Linking.{linked_of}
use Rattle.shell_session.specs.Generating.{IsSummary}
use Rattle.shell_session.specs.Serving.{DesignEnds, BegunEnds, DocumentsEnd, RunEnds, Ends, Written}

module _ (holds : Docs) (old new : ℕ) (run : RunWords) (text : List ℕ) where
  pub run_refused : (role : Role) (code : Code) (place : ℕ) → Stops holds run old new (sources run) (Refused role code place)
      → text ≡ refusal_line role (record { code = code; at = place }) → RunEnds holds old new run 3 text
  run_refused role code place why written = inl (refl, (role, record { code = code; at = place }, why.0, written))

  pub run_missing : (role : Role) (how : How) → Stops holds run old new (sources run) (Missing role how) → text ≡ shelf_line (name_of run role) how → RunEnds holds old new run 4 text
  run_missing role how why written = inr (inl (refl, (role, how, why, written)))

  pub run_read : (docs : Documents) (status : ℕ) → AreDocuments holds run docs → DocumentsEnd docs status text → RunEnds holds old new run status text
  run_read docs status read ended = inr (inr (docs, read, ended))

-- what a server ends with whose words ask for nothing, for a run, or for a generated run
module _ (holds : Docs) (old new : ℕ) (asked : Option Words) (text : List ℕ) where
  pub ends_unasked : None ≡ asked → text ≡ words_line → Ends holds old new asked 2 text
  ends_unasked none written = subst (λ a. Ends holds old new a 2 text) none (refl, written)

  pub ends_run : (run : RunWords) (status : ℕ) → Some (run_asked run) ≡ asked → RunEnds holds old new run status text → Ends holds old new asked status text
  ends_run run status is ended = subst (λ a. Ends holds old new a status text) is ended

  pub ends_generated : (g : GenerateWords) → Some (generate_asked g) ≡ asked → IsSummary g.number g.gates g.edits text → Ends holds old new asked 0 text
  ends_generated g is summary = subst (λ a. Ends holds old new a 0 text) is (refl, summary)

appends_nothing : (o : Option (List ℕ)) → Appends o o []
appends_nothing None = tt
appends_nothing (Some bytes) = sym (append-nil bytes)

module _ (before after : Option (List ℕ)) (faults faults' : ℕ) (holds : Docs) (old new : ℕ) (asked : Option Words) where
  pub written_whole : (status : ℕ) (text : List ℕ) → status ≤ 4 → faults' ≡ faults → Ends holds old new asked status text → Appends before after text
      → Written before after faults faults' holds old new asked status
  written_whole status text low quiet ended appended = inr (inr (low, quiet, (text, ended, appended)))

  pub written_partly : (status : ℕ) (text : List ℕ) → Rose faults faults' → Ends holds old new asked status text → AppendsPrefix before after text
      → Written before after faults faults' holds old new asked 5
  written_partly status text rose ended appended = inl (refl, rose, (status, text, ended, appended))

pub written_nothing : (before : Option (List ℕ)) (faults : ℕ) (holds : Docs) (old new : ℕ) (asked : Option Words) → Written before before faults faults holds old new asked 6
written_nothing before faults holds old new asked = inr (inl (refl, appends_nothing before, refl))

-- a fault that is not want of memory has its cause
caused : (x : Fault) (Cause : Fault → Type 0) → (x ≡ no_room) ⊎ Cause x → is_wanting x ≡ false → Cause x
caused x Cause (inl wanting) not = absurd (false≢true (sym not ∙ ap is_wanting wanting))
caused x Cause (inr cause) not = cause

-- how a run over a design ends that has a fault
pub design_unsound : (d : Design) (scripts : List Script) (x : Fault) (status : ℕ) (text : List ℕ) → IsUnsound d x → is_wanting x ≡ false → status ≡ 3 → text ≡ design_line x
    → DesignEnds d scripts status text
design_unsound d scripts x status text unsound not is written = inl (is, (x, caused x (Faulty d) unsound not, written))

-- a run ends as follows of what it ends with
pub ended : (r : Result End Memory) (P Q : End → Type 0) → ((end : End) → P end → Q end) → IfOk r P → IfOk r Q
ended (Ok end) P Q more h = more end h
ended (Err x) P Q more h = tt

-- documents that were read can be linked
pub linkable : (docs : Documents) → AreKept docs → AreLinkable docs.early docs.late docs.netlist docs.sdc docs.spef
linkable docs kept =
    record {
      has_early = kept.has_early;
      has_late = kept.has_late;
      has_netlist = kept.has_netlist;
      has_constraints = kept.has_constraints;
      has_parasitics = kept.has_parasitics;
    }

module _ (docs : Documents) (status : ℕ) (text : List ℕ) where
  -- how a run ends whose documents are not linked
  pub documents_refused : (x : Fault) → (x ≡ no_room) ⊎ (linked_of docs ≡ Err x) → is_wanting x ≡ false → status ≡ 3 → text ≡ design_line x → DocumentsEnd docs status text
  documents_refused x refused not is written = inl (is, (x, caused x (λ y. linked_of docs ≡ Err y) refused not, written))

  -- and whose documents are
  pub documents_linked : (d : Design) → linked_of docs ≡ Ok d → BegunEnds d docs.saved docs.scripts status text → DocumentsEnd docs status text
  documents_linked d linked ended = inr (d, linked, ended)
