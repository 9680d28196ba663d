-- What receipts tell: the number up to which all entries stand in a file for certain, and whether a put failed.

use Rattle.std.specs.Prelude.{ℕ, ◌≡◌, ◌≤◌, Bool, true, false, not, ◌||◌, cond, max, List, [], ◌∷◌}
use mathlib.Core.Option.{some}
use lib.ListN.{get_elem?}
use Rattle.atomic_table.specs.Seated.{TableId}
use Rattle.live_journal.specs.declared.cells.Known.{Known}
use Rattle.live_journal.specs.declared.cells.View.{View}

-- all entries up to the number stand in the file, and each put went well where it is sound
abbrev pub known : ℕ → Bool → Known
known kept sound = record { upto = kept; torn = not sound }

abbrev pub nothing : Known
nothing = record { upto = 0; torn = false }

-- the second tells no less than the first
abbrev pub IsAtMost : Known → Known → Type 0
IsAtMost a b = (a.upto ≤ b.upto) × (a.torn ≡ true → b.torn ≡ true)

-- what two tell together
abbrev pub both : Known → Known → Known
both a b = record { upto = max a.upto b.upto; torn = a.torn || b.torn }

-- a keeper: of which cell, and what it knows
pub record Knowing : Type 0 where
  pub cell : TableId
  pub known : Known

abbrev pub knowing : TableId → Known → Knowing
knowing cell known = record { cell = cell; known = known }

-- what is known, in two words
abbrev pub words : Known → List ℕ
words k = k.upto ∷ cond k.torn 1 0 ∷ []

-- the pass that keeps
abbrev pub keeping_pass : Known → View
keeping_pass k = record { keeps = true; kept = k; told = k }

-- the pass of a receipt
abbrev pub telling_pass : Known → View
telling_pass k = record { keeps = false; kept = nothing; told = k }

-- one pass at most keeps, and it knows what the cell holds; every pass tells no more than that
abbrev pub Holds : Known → List View → Type 0
Holds x views =
    (seat : ℕ) × ((by : ℕ) (v : View) → get_elem? views by ≡ some v → (v.keeps ≡ true → (by ≡ seat) × (v.kept ≡ x)) × IsAtMost v.told x)

-- the keeper writes what is known from then on
abbrev pub Rises : View → Known → Known → View → Type 0
Rises v before after w = w ≡ keeping_pass after

-- the keeper compares what it was told with what it knows
abbrev pub Compares : View → Known → Known → View → Type 0
Compares v before after w = (w ≡ keeping_pass v.kept) × IsAtMost v.told v.kept

-- a pass of a receipt beside another
abbrev pub tells : View → View
tells v = telling_pass v.told

-- a pass that takes in what another tells
abbrev pub takes : View → View → View
takes v w = record { keeps = v.keeps; kept = v.kept; told = both v.told w.told }
