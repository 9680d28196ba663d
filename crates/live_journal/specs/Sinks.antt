-- The file of a journal, where there is one.

use Rattle.std.specs.Prelude.{ℕ, List}
use Rattle.std.specs.declared.option.Option.{Option}
use Rattle.std.specs.declared.option.Option.TheVariants.{None, Some}
use Rattle.live_journal.specs.declared.sinks.JournalSink.{JournalSink}
use Rattle.live_journal.specs.declared.sinks.JournalSink.TheVariants.{File, Nowhere}

-- the bytes of a file, where there is one and it tells them
abbrev pub written_of : {F : Type 0} → (F → Option (List ℕ)) → JournalSink F → Option (List ℕ)
written_of written (File file) = written file
written_of written Nowhere = None

-- how often a file failed, where there is one
abbrev pub faults_of : {F : Type 0} → (F → ℕ) → JournalSink F → ℕ
faults_of faults (File file) = faults file
faults_of faults Nowhere = 0

abbrev pub file_of : {F : Type 0} → JournalSink F → Option F
file_of (File file) = Some file
file_of Nowhere = None
