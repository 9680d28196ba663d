-- Paths in order, at most so many: a path is put before the first that it comes before.

use Rattle.std.specs.Prelude.{ℕ, if◌then◌else◌, List, [], ◌∷◌, take}
use Rattle.timing_defs.specs.declared.rows.Path.{Path}
use Rattle.timing_rules.specs.Ranking.{ranked, comes_before}

abbrev pub put : Path → List Path → List Path
put p [] = p ∷ []
put p (q ∷ qs) = (if comes_before (ranked p) (ranked q) then p ∷ q ∷ qs else q ∷ put p qs)

-- of paths with some more the first so many
abbrev pub kept_all : ℕ → List Path → List Path → List Path
kept_all most kept [] = kept
kept_all most kept (p ∷ ps) = kept_all most (take most (put p kept)) ps
