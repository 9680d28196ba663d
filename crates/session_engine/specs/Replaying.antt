-- Why a saved journal is not replayed.

use Rattle.std.specs.Prelude.{ℕ, ◌≡◌, List, ⊤}
use Rattle.timing_defs.specs.declared.design.Design.{Design}
use Rattle.timing_defs.specs.declared.edits.Eco.{Eco}
use Rattle.timing_defs.specs.declared.edits.Entry.{Entry}
use Rattle.timing_rules.specs.Checks.{Faulty, Refuses}
use Rattle.timing_rules.specs.Sessions.{IsRefusedEntry}
use Rattle.session_engine.specs.declared.replaying.ReplayFault.{ReplayFault}
use Rattle.session_engine.specs.declared.replaying.ReplayFault.TheVariants.{First, Refused, Memory as no_memory}

-- a fault stands in the linked design, or an entry, counted from 1, is the first that is refused; or memory is wanting
abbrev pub IsReplayFault : Design → List Entry → ReplayFault → Type 0
IsReplayFault d saved no_memory = ⊤
IsReplayFault d saved (First x) = Faulty d x
IsReplayFault d saved (Refused entry x) = IsRefusedEntry d saved entry x

-- the ECO of the entry at this place, counted from 1, is refused over the design before it; or memory is wanting
abbrev pub IsStepFault : Design → ℕ → Eco → ReplayFault → Type 0
IsStepFault d place eco no_memory = ⊤
IsStepFault d place eco (First x) = ⊥
IsStepFault d place eco (Refused entry x) = (entry ≡ place) × Refuses d eco x
