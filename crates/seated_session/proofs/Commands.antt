-- What a session asks can be run.

use Rattle.std.proofs.Common.{◌≡◌, true, ◌||◌, refl}
use Rattle.timing_defs.specs.declared.reports.Query.{Query}
use Rattle.timing_defs.specs.declared.reports.Query.TheVariants.{Slew, At, Rat, Slack, Endpoint, WorstPath, Wns, Tns, Worst, Through, Paths, WhatIf', Advise, Closing}
use Rattle.timing_defs.specs.declared.scripts.Command.{Command}
use Rattle.timing_defs.specs.declared.scripts.Command.TheVariants.{Take, Await, Ask, Change}
use Rattle.timing_defs.specs.Documents.{is_plain}
use Rattle.script_reader.specs.Answerable.{is_asked}
use Rattle.script_reader.specs.LiveKept.{can_be_answered}
use Rattle.session_engine.specs.Running.{is_further, is_runnable}

-- a question that is answered is plain or further
asks : (q : Query) → is_asked q ≡ true → (is_plain q || is_further q) ≡ true
asks (Slew pin split tran) k = refl
asks (At pin split tran) k = refl
asks (Rat pin split tran) k = refl
asks (Slack pin split tran) k = refl
asks (Endpoint pin kind) k = refl
asks (WorstPath pin kind) k = refl
asks (Wns kind) k = refl
asks (Tns kind) k = refl
asks (Worst kind count) k = refl
asks (Through pin kind pins) k = k
asks (Paths pin kind count) k = k
asks (WhatIf' shape trials) k = k
asks (Advise kind candidates) k = k
asks (Closing query) k = k

pub runs : (c : Command) → can_be_answered c ≡ true → is_runnable c ≡ true
runs Take h = refl
runs (Await number looks) h = h
runs (Ask q) h = asks q h
runs (Change eco) h = h
