use Rattle.std.proofs.Common.{◌≡◌, ◌+◌, length}
use Rattle.eco_journal.specs.Lines.{lines_of}
use Rattle.script_reader.specs.Scripts.{events, script_of}
use Rattle.script_reader.specs.Progress.{whole}
use Rattle.script_reader.proofs.scripts.whole_script.Given as goal

-- the state and the lines that are left make what the text makes, and the lines' numbers go on
abbrev pub invariant-loop-line : goal.invariant-loop-line
invariant-loop-line l =
    (whole l.state (events l.number l.lines) ≡ script_of l.bytes) × (l.number + length l.lines ≡ 1 + length (lines_of l.bytes))

abbrev pub decreases-loop-line : goal.decreases-loop-line
decreases-loop-line l = length l.lines
