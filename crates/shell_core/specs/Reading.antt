-- What is known while the scripts of a run are read, one after the other.

use Rattle.std.specs.Prelude.{◌≡◌, ℕ, ◌+◌, List, length, take, drop}
use Rattle.std.specs.List.{All}
use Rattle.timing_defs.specs.declared.scripts.Script.{Script}
use Rattle.shell_core.specs.declared.documents.Stop.{Stop}
use Rattle.command_words.specs.Asked.{RunWords}
use Rattle.shell_core.specs.Scripts.{IsScript}
use Rattle.shell_core.specs.Documents.{Docs, script_sources, Stops, SayScripts}

-- the first scripts of a run, so many: what stops the reading of those behind them stops that of all
pub record AreRead (docs : Docs) (run : RunWords) (count : ℕ) (scripts : List Script) : Type 0 where
  pub many : length scripts ≡ count
  pub said : SayScripts docs (take count run.scripts) scripts
  pub known : All IsScript scripts
  pub stops :
      (old new : ℕ) (stop : Stop) → Stops docs run old new (script_sources (count + 1) (drop count run.scripts)) stop
      → Stops docs run old new (script_sources 1 run.scripts) stop
