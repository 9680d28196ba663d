-- Results of parts of a list.

use Rattle.std.specs.Prelude.{List, ℕ, ◌≡◌, ◌≤◌, ◌++◌, length, All}
use Rattle.std.specs.List.{slice_range}
use Rattle.level_workers.specs.Mapped.{IsMap}
use Rattle.level_workers.specs.declared.runs.Run.{Run}

-- the results of the items stand after others
abbrev pub IsMapOnto : {I R : Type 0} → (I → R → Type 0) → List R → List I → List R → Type 0
IsMapOnto {I = I} {R = R} gives before items all = (more : List R) × (all ≡ before ++ more) × IsMap gives items more

-- the results are those of the items from one place to another
abbrev pub IsMapOf : {I R : Type 0} → (I → R → Type 0) → List I → ℕ → ℕ → List R → Type 0
IsMapOf gives items from to results = (from ≤ to) × (to ≤ length items) × IsMap gives (slice_range items from to) results

-- each run has the results of its items
abbrev pub AreRuns : {I R : Type 0} → (I → R → Type 0) → List I → List (Run R) → Type 0
AreRuns gives items runs = All (λ run. IsMapOf gives items run.from run.to run.results) runs
