-- What captures the endpoints of a store, by the numbers of their pins.

use Rattle.std.specs.Prelude.{ℕ, ◌≡◌, ◌++◌, ℤ, List, [], ◌∷◌, if◌then◌else◌, Some}
use Rattle.timing_defs.specs.declared.kinds.Kind.{Kind}
use Rattle.timing_defs.specs.declared.rows.Path.{Path}
use Rattle.timing_rules.specs.Summaries.{Captured, IsCaptured}
use Rattle.level_workers.specs.Mapped.{IsMap}
use Rattle.netlist_store.specs.Numbering.{Stored, name_at}
use Rattle.affected_cone.specs.Analysed.{is_end}

-- the capture clock and the slack of a path
abbrev pub captured_by : Path → ℕ × ℤ
captured_by p = (p.capture_clock, p.slack.0)

-- what captures the endpoint of a pin's number
abbrev pub IsCapturedAt : Stored → Kind → ℕ → Captured → Type 0
IsCapturedAt s kind pin c = (name : List ℕ) → name_at s.pins pin ≡ Some name → IsCaptured s.design kind name c

-- a list with what captures one pin more, where it is an endpoint
pub record IsWithPin (s : Stored) (kind : Kind) (pin : ℕ) (before after : List Captured) : Type 0 where
  pub added : List Captured
  pub are : IsMap (IsCapturedAt s kind) (if is_end s pin then pin ∷ [] else []) added
  pub more : after ≡ before ++ added
