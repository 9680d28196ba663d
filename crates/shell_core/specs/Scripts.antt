-- What is known of a script that was read.

use Rattle.std.specs.Prelude.{◌≡◌, ◌≤◌, nat_le, Bool, true, length, ⊤}
use Rattle.std.specs.List.{All, list_all}
use Rattle.timing_defs.specs.declared.scripts.Command.{Command}
use Rattle.timing_defs.specs.declared.scripts.Command.TheVariants.{Take, Await, Ask, Change}
use Rattle.timing_defs.specs.declared.scripts.Script.{Script}
use Rattle.eco_journal.specs.Written.{IsEco}
use Rattle.script_reader.specs.Answerable.{are_answerable}

-- a command that waits has a look at least
abbrev pub has_looks : Command → Bool
has_looks (Await number looks) = nat_le 1 looks
has_looks command = true

-- a command that changes has an ECO that a journal can hold
abbrev pub CanStand : Command → Type 0
CanStand Take = ⊤
CanStand (Await number looks) = ⊤
CanStand (Ask q) = ⊤
CanStand (Change eco) = IsEco eco

-- a script as it is read: at most 10,000 commands
pub record IsScript (script : Script) : Type 0 where
  pub looks : list_all has_looks script.commands ≡ true
  pub written : All CanStand script.commands
  pub answerable : are_answerable script ≡ true
  pub few : length script.commands ≤ 10000
