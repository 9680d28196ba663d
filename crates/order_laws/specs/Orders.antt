-- The design after all ECOs of scripts, one script behind the other.
use Rattle.std.specs.Prelude.{List, [], ◌∷◌, ◌++◌, Option, Some, None, Result, Ok, Err}
use Rattle.std.specs.List.{cons_option}
use Rattle.timing_defs.specs.declared.design.Design.{Design}
use Rattle.timing_defs.specs.declared.edits.Eco.{Eco}
use Rattle.timing_defs.specs.declared.faults.Fault.{Fault}
use Rattle.timing_defs.specs.declared.scripts.Command.{Command}
use Rattle.timing_defs.specs.declared.scripts.Command.TheVariants.{Take, Await, Ask, Change}
use Rattle.timing_defs.specs.declared.scripts.Script.{Script}
use Rattle.timing_defs.specs.Edits.{edited}

-- steps in order from a state, up to the first fault
abbrev pub folded : {X Y Z : Type 0} → (X → Y → Result X Z) → Result X Z → List Y → Result X Z
folded step (Err fault) ys = Err fault
folded step (Ok x) [] = Ok x
folded step (Ok x) (y ∷ ys) = folded step (step x y) ys

-- the ECO that a command asks for
abbrev pub asked_eco : Command → Option Eco
asked_eco Take = None
asked_eco (Await number looks) = None
asked_eco (Ask q) = None
asked_eco (Change eco) = Some eco

-- the ECOs of a script, in order
abbrev pub ecos_asked : List Command → List Eco
ecos_asked [] = []
ecos_asked (command ∷ commands) = cons_option (asked_eco command) (ecos_asked commands)

-- the ECOs of scripts, those of the first script first
abbrev pub scripts_ecos : List Script → List Eco
scripts_ecos [] = []
scripts_ecos (script ∷ scripts) = ecos_asked script.commands ++ scripts_ecos scripts

-- the design after all ECOs of the scripts, one script behind the other, or the first fault
abbrev pub edited_by_scripts : Design → List Script → Result Design Fault
edited_by_scripts d scripts = folded edited (Ok d) (scripts_ecos scripts)
