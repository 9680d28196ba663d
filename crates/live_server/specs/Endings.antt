-- What is written behind the sessions of a live run.

use Rattle.std.specs.Prelude.{ℕ, ◌≡◌, List}
use Rattle.timing_defs.specs.declared.scripts.Totals.{Totals}
use Rattle.timing_defs.specs.Output.{final_text}
use Rattle.timing_rules.specs.Reports.{AreTotals}
use Rattle.session_engine.specs.Versions.{Versioned}
use Rattle.live_server.specs.Serving.{Out, IsFinal, TellsFinal}

-- the line of the totals of a version is told
abbrev pub TellsTotals : Versioned → Out → Out → ℕ → ℕ → Type 0
TellsTotals v old new meant status =
    (totals : Totals) × AreTotals v.stored.design v.number totals × TellsFinal old new (final_text totals) meant status

-- the line of the totals behind all entries of a version is told
abbrev pub LeavesLine : Versioned → Out → Out → ℕ → ℕ → Type 0
LeavesLine v old new meant status =
    (line : List ℕ) × IsFinal v.origin v.first v.journal line × TellsFinal old new line meant status
