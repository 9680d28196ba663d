use Rattle.std.proofs.Common.{◌≡◌, ◌+◌, ◌++◌, drop}
use Rattle.timing_defs.specs.Output.{sessions_text}
use Rattle.report_text.proofs.outputs.push_sessions.Given as goal

abbrev pub invariant-loop-transcript : goal.invariant-loop-transcript
invariant-loop-transcript l =
    (l.out.items ++ sessions_text l.clocks (l.number + 1) (drop l.transcript-index l.transcripts) ≡ l.initial.out.items ++ sessions_text l.clocks 1 l.transcripts)
    × (l.number ≡ l.transcript-index)
