use Rattle.std.proofs.Common.{◌≡◌, ◌++◌, map, drop}
use Rattle.sdc_reader.specs.Meaning.{uncertain_if}
use Rattle.sdc_reader.proofs.clocks.uncertain_all.Given as goal

abbrev pub invariant-loop-clock : goal.invariant-loop-clock
invariant-loop-clock l =
    l.found ++ map (uncertain_if l.draft l.value) (drop l.clock-index l.clocks) ≡ map (uncertain_if l.draft l.value) l.clocks
