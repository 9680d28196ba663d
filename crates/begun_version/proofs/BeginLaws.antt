-- How what a refusal tells of a fault is what keeps a run from beginning.
use Rattle.std.proofs.Common.{◌≡◌, ◌⊎◌, false, List, Option, Some, None, Ok, Err, inl, inr, sym, ap, ◌∙◌}
use Rattle.std.proofs.lemmas.Bool.{false≢true}
use Rattle.timing_defs.specs.declared.edits.Entry.{Entry}
use Rattle.timing_defs.specs.declared.faults.Fault.{Fault}
use Rattle.timing_defs.specs.declared.faults.Fault.TheVariants.{Memory as no_room}
use Rattle.timing_defs.specs.declared.design.Design.{Design}
use Rattle.timing_rules.specs.Checks.{Faulty}
use Rattle.eco_analysis.specs.Soundness.{IsUnsound}
use Rattle.design_link.specs.Documents.{AreDocuments as AreLinkable}
use Rattle.session_engine.specs.declared.replaying.ReplayFault.{ReplayFault}
use Rattle.session_engine.specs.declared.replaying.ReplayFault.TheVariants.{First, Refused as refused_entry, Memory as no_memory}
use Rattle.session_engine.specs.Replaying.{IsReplayFault}
use Rattle.shell_core.specs.declared.documents.DesignDocuments.{DesignDocuments}
use Rattle.shell_core.specs.Answers.{is_wanting}
use Rattle.shell_core.specs.Kept.{IsKeptDesign}
use Rattle.begun_version.specs.declared.beginning.Unbegun.{Unbegun}
use Rattle.begun_version.specs.declared.beginning.Unbegun.TheVariants.{Refused, Memory}
use Rattle.begun_version.specs.Beginning.{linked_of, IsUnbegun}
use Rattle.begun_version.specs.Telling.{Tells, TellsReplay, TellsOver}

-- a fault that is not want of memory has its cause
caused : (x : Fault) (Cause : Fault → Type 0) → (x ≡ no_room) ⊎ Cause x → is_wanting x ≡ false → Cause x
caused x Cause (inl wanting) not = absurd (false≢true (sym not ∙ ap is_wanting wanting))
caused x Cause (inr cause) not = cause

-- what is told of a fault is told of it as the first of a replay
pub fault_told : (x : Fault) (u : Unbegun) → Tells x u → TellsReplay (First x) u
fault_told x (Refused end) told = (told.1, told.2)
fault_told x Memory told = tt

-- a fault of a design that is told
pub unsound_told : (d : Design) (saved : Option (List Entry)) (x : Fault) (u : Unbegun) → IsUnsound d x → Tells x u → TellsOver d saved u
unsound_told d saved x (Refused end) why told = (told.1, inl (x, caused x (Faulty d) why told.0, told.2))
unsound_told d saved x Memory why told = tt

-- why a saved journal is not replayed is told
pub replay_told : (d : Design) (saved : List Entry) (fault : ReplayFault) (u : Unbegun) → IsReplayFault d saved fault → TellsReplay fault u → TellsOver d (Some saved) u
replay_told d saved (First x) (Refused end) why told = (told.0, inl (x, why, told.1))
replay_told d saved (refused_entry entry x) (Refused end) why told = (told.0, inr (entry, x, why, told.1))
replay_told d saved no_memory (Refused end) why told = absurd told.1
replay_told d saved fault Memory why told = tt

-- documents that were read can be linked
pub linkable : (docs : DesignDocuments) → IsKeptDesign docs → AreLinkable docs.early docs.late docs.netlist docs.sdc docs.spef
linkable docs kept =
    record {
      has_early = kept.has_early;
      has_late = kept.has_late;
      has_netlist = kept.has_netlist;
      has_constraints = kept.has_constraints;
      has_parasitics = kept.has_parasitics;
    }

module _ (docs : DesignDocuments) (saved : Option (List Entry)) where
  -- the fault of linking documents that is told
  pub unlinked_told : (x : Fault) (u : Unbegun) → (x ≡ no_room) ⊎ (linked_of docs ≡ Err x) → Tells x u → IsUnbegun docs saved u
  unlinked_told x (Refused end) why told = (told.1, inl (x, caused x (λ y. linked_of docs ≡ Err y) why told.0, told.2))
  unlinked_told x Memory why told = tt

  -- why the design of documents does not begin
  pub linked_told : (d : Design) (u : Unbegun) → linked_of docs ≡ Ok d → TellsOver d saved u → IsUnbegun docs saved u
  linked_told d (Refused end) linked told = (told.0, inr (d, linked, told.1))
  linked_told d Memory linked told = tt
