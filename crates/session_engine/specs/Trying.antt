-- What comes of one attempt to publish an ECO.

use Rattle.std.specs.Prelude.{ℕ, ◌≡◌, [], ◌∷◌}
use Rattle.std.specs.Arc.{arc_value}
use Rattle.timing_defs.specs.declared.edits.Eco.{Eco}
use Rattle.timing_defs.specs.declared.scripts.Answer.TheVariants.{Accepted, Refused}
use Rattle.timing_rules.specs.Checks.{Refuses}
use Rattle.timing_rules.specs.Sessions.{entry_by}
use Rattle.session_engine.specs.declared.commands.Attempt.{Attempt}
use Rattle.session_engine.specs.declared.commands.Attempt.TheVariants.{Done, Moved}
use Rattle.session_engine.specs.Versions.{Versioned}
use Rattle.session_engine.specs.Looking.{Sight, Holds, Saw, Adds}

-- the ECO is on the board, or refused over the base without a look, or a newer version was seen
abbrev pub Tried : ℕ → Sight → Versioned → Eco → Sight → Attempt → Type 0
Tried who v base eco w (Done next Accepted) = Adds v (entry_by who eco) w × Holds w (arc_value next)
Tried who v base eco w (Done next (Refused x)) = (w ≡ v) × (arc_value next ≡ base) × Refuses base.stored.design eco x
Tried who v base eco w (Done next answer) = ⊥
Tried who v base eco w (Moved newest) = Saw v ((arc_value newest).number ∷ []) w × Holds w (arc_value newest)
