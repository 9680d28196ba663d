-- What the answer of an edit of a store says, and what a store made by an ECO is to its base.

use Rattle.std.specs.Prelude.{◌≡◌, ◌⊎◌, true, Option, Some, None, Result, Ok, Err}
use Rattle.timing_defs.specs.declared.design.Design.{Design}
use Rattle.timing_defs.specs.declared.edits.Eco.{Eco}
use Rattle.timing_defs.specs.declared.faults.Fault.{Fault}
use Rattle.timing_defs.specs.declared.faults.Fault.TheVariants.{Memory}
use Rattle.timing_defs.specs.Edits.{edited}
use Rattle.timing_defs.specs.Documents.{is_eco}
use Rattle.timing_defs.specs.Touches.{Touch, touched_list}
use Rattle.netlist_store.specs.Numbering.{Stored, KeepsNumbers}
use Rattle.netlist_store.specs.Linked.{IsLinked}

-- the fault is the first one of the ECO, or want of memory
abbrev pub IsRefused : Design → Eco → Fault → Type 0
IsRefused d eco fault = (fault ≡ Memory) ⊎ (edited d eco ≡ Err fault)

-- a check of an edit: it passes where it has no fault, and else answers its fault, or want of memory
abbrev pub IsChecked : {T : Type 0} → Result T Fault → Option Fault → Type 0
IsChecked (Ok x) fault = fault ≡ None
IsChecked (Err f) fault = (f ≡ Memory) ⊎ (fault ≡ Some f)

-- an edit of a store: its design is that after the edit, or its fault the first one, or want of memory
abbrev pub IsEdited : Result Stored Fault → Result Design Fault → Type 0
IsEdited (Ok after) one = one ≡ Ok after.design
IsEdited (Err f) one = (f ≡ Memory) ⊎ (one ≡ Err f)

-- a store that an ECO made of a base: its design is the base's after all edits in order, what they touch is told in
-- the order of the edits (a name once for each), and what keeps its name keeps its number
pub record IsApplied (base : Stored) (eco : Eco) (after : Stored) (touch : Touch) : Type 0 where
  pub linked : IsLinked base.design
  pub is_eco : is_eco eco ≡ true
  pub made : edited base.design eco ≡ Ok after.design
  pub insts : touch.insts ≡ (touched_list base.design eco.edits).insts
  pub nets : touch.nets ≡ (touched_list base.design eco.edits).nets
  pub numbers : KeepsNumbers base after

-- some ECO made it
abbrev pub IsEditOf : Stored → Touch → Stored → Type 0
IsEditOf base touch after = (eco : Eco) × IsApplied base eco after touch
