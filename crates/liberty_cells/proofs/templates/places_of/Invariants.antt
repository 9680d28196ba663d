use Rattle.std.proofs.Common.{◌≡◌, ℕ, List, drop}
use Rattle.sta_text.specs.Names.{said}
use Rattle.liberty_cells.specs.Statements.{told}
use Rattle.liberty_cells.specs.Tables.{place_of}
use Rattle.liberty_cells.specs.Places.{place_or}
use Rattle.liberty_cells.proofs.templates.places_of.Given as goal

abbrev pub invariant-loop-at : goal.invariant-loop-at
invariant-loop-at l =
    (q : List ℕ) → place_or (said l.places q) (place_of l.at q (told (drop l.at l.trees))) ≡ place_of 0 q (told l.trees)
