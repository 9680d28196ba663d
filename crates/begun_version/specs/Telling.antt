-- What a refusal tells of a fault, and of a design.

use Rattle.std.specs.Prelude.{◌≡◌, ℕ, false, List, Option, ⊤}
use Rattle.timing_defs.specs.declared.edits.Entry.{Entry}
use Rattle.timing_defs.specs.declared.faults.Fault.{Fault}
use Rattle.timing_defs.specs.declared.design.Design.{Design}
use Rattle.session_engine.specs.declared.replaying.ReplayFault.{ReplayFault}
use Rattle.session_engine.specs.declared.replaying.ReplayFault.TheVariants.{First, Refused as refused_entry, Memory as no_memory}
use Rattle.shell_core.specs.Answers.{is_wanting}
use Rattle.shell_core.specs.Documents.{design_line, entry_line}
use Rattle.begun_version.specs.Beginning.{IsRefusedOver}
use Rattle.begun_version.specs.declared.beginning.Unbegun.{Unbegun}
use Rattle.begun_version.specs.declared.beginning.Unbegun.TheVariants.{Refused, Memory}

-- a fault of documents or of their design is told
abbrev pub Tells : Fault → Unbegun → Type 0
Tells x (Refused end) = (is_wanting x ≡ false) × (end.status ≡ 3) × (end.text.items ≡ design_line x)
Tells x Memory = ⊤

-- the line of a saved journal that is not replayed
abbrev pub IsReplayLine : ReplayFault → List ℕ → Type 0
IsReplayLine (First x) line = line ≡ design_line x
IsReplayLine (refused_entry entry x) line = line ≡ entry_line entry x
IsReplayLine no_memory line = ⊥

abbrev pub TellsReplay : ReplayFault → Unbegun → Type 0
TellsReplay fault (Refused end) = (end.status ≡ 3) × IsReplayLine fault end.text.items
TellsReplay fault Memory = ⊤

-- why a linked design does not begin is told
abbrev pub TellsOver : Design → Option (List Entry) → Unbegun → Type 0
TellsOver linked saved (Refused end) = (end.status ≡ 3) × IsRefusedOver linked saved end.text.items
TellsOver linked saved Memory = ⊤
