-- The edit that resizes an instance, and the rows of the cells to which it may be resized.

use Rattle.std.specs.Prelude.{ℕ, ◌≡◌, Bool, true, false, List, [], ◌∷◌, ◌++◌, ⊤}
use Rattle.timing_defs.specs.declared.library.Cell.{Cell}
use Rattle.timing_defs.specs.declared.closing.SizeChoice.{SizeChoice}
use Rattle.timing_defs.specs.declared.design.Design.{Design}
use Rattle.timing_defs.specs.declared.edits.Edit.TheVariants.{Repower}
use Rattle.timing_defs.specs.declared.edits.Eco.{Eco}
use Rattle.timing_defs.specs.declared.reports.Candidate.{Candidate}
use Rattle.timing_defs.specs.declared.faults.Fault.{Fault}
use Rattle.timing_defs.specs.declared.faults.Fault.TheVariants.{Memory}
use Rattle.timing_defs.specs.Firsts.{AreAll}
use Rattle.timing_defs.specs.Edits.{cells_agree}
use Rattle.timing_rules.specs.Connections.{may_be, input_before, IsInputOf}

abbrev pub resize : List ℕ → List ℕ → Eco
resize inst cell = record { edits = Repower inst cell ∷ [] }

abbrev pub candidate_by : List ℕ → List ℕ → Candidate
candidate_by inst cell = record { inst = inst; cell = cell }

-- whether a fault tells of a design: each but want of memory
abbrev pub tells : Fault → Bool
tells Memory = false
tells other = true

-- the row of a cell, by the present one
pub record IsChoiceOf (now cell : Cell) (row : SizeChoice) : Type 0 where
  pub named : row.cell ≡ cell.name
  pub alike : row.alike ≡ cells_agree now cell
  pub inputs : AreAll input_before (IsInputOf cell) row.inputs

-- rows of cells one by one
abbrev pub AreChoicesOf : Cell → List Cell → List SizeChoice → Type 0
AreChoicesOf now [] [] = ⊤
AreChoicesOf now [] (r ∷ rs) = ⊥
AreChoicesOf now (c ∷ cs) [] = ⊥
AreChoicesOf now (c ∷ cs) (r ∷ rs) = IsChoiceOf now c r × AreChoicesOf now cs rs

-- the row of a cell comes to others where the instance may be resized to it
abbrev pub AddsIf : Bool → Cell → Cell → List SizeChoice → List SizeChoice → Type 0
AddsIf false now cell before after = after ≡ before
AddsIf true now cell before after = (row : SizeChoice) × IsChoiceOf now cell row × (after ≡ before ++ row ∷ [])

abbrev pub AddsChoice : Design → List ℕ → Cell → Cell → List SizeChoice → List SizeChoice → Type 0
AddsChoice d inst now cell before after = AddsIf (may_be d inst cell.name) now cell before after
