-- Places of templates by name.
use Rattle.std.specs.Prelude.{◌≡◌, ℕ, List, Option, Some, None, option_map, slice_get}
use denote.Ref.{Bor}
use Rattle.timing_defs.specs.declared.liberty_tree.Tree.{Tree}
use Rattle.timing_defs.specs.declared.liberty_tree.Item.{Item}
use Rattle.sta_text.specs.Names.{said}
use Rattle.liberty_cells.specs.Tables.{place_of}

abbrev pub place_or : Option ℕ → Option ℕ → Option ℕ
place_or None other = other
place_or (Some at) other = Some at

-- names and places find the first template of each name
abbrev pub Finds : List (List ℕ × ℕ) → List Tree → Type 0
Finds places trees = (q : List ℕ) → said places q ≡ place_of 0 q trees

-- the statements of the group at a place
abbrev pub items_at : List (Bor Tree) → ℕ → Option (List Item)
items_at trees at = option_map (λ (t : Bor Tree). t.now.items) (slice_get trees at)
