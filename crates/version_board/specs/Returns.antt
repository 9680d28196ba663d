-- What comes back where nothing was published.
use Rattle.std.specs.Prelude.{◌≡◌, ◌≢◌, ℕ, ◌+◌, List, length}
use Rattle.std.specs.Arc.{arc_value}
use Rattle.std.specs.declared.sync.Arc.{Arc}
use Rattle.std.specs.declared.alloc.Global.{Global}
use Rattle.version_board.specs.declared.boards.Unpublished.{Unpublished}
use Rattle.version_board.specs.declared.boards.Unpublished.TheVariants.{Moved, Memory}
use Rattle.version_board.specs.declared.views.View.{View}
use Rattle.version_board.specs.History.{Meaning}
use Rattle.version_board.specs.Callers.{Standing, StandsFor, Looks}

module _ {T E O : Type 0} where
  -- the value that was to be published, and in `Moved` one that stands for the list
  abbrev pub GivesBack : Meaning T E O → Standing T → List E → Arc T Global → Unpublished T → Type 0
  GivesBack m b log next (Moved newest back) = (back ≡ next) × StandsFor m b log (arc_value newest)
  GivesBack m b log next (Memory back) = back ≡ next

  -- the seat looked at a list of another count, and has seen that list now
  abbrev pub Refuses : Meaning T E O → Standing T → ℕ → View E O → View E O → Arc T Global → Unpublished T → Type 0
  Refuses m b base v w next u = Looks v w.seen w × (v.first + length w.seen ≢ base) × (w.mine ≡ v.mine) × GivesBack m b w.seen next u
