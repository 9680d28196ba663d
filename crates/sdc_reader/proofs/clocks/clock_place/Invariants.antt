use Rattle.std.proofs.Common.{◌≡◌, drop}
use Rattle.sdc_reader.specs.Meaning.{place_from}
use Rattle.sdc_reader.proofs.clocks.clock_place.Given as goal

abbrev pub invariant-loop-place : goal.invariant-loop-place
invariant-loop-place l = place_from l.place l.name (drop l.place l.clocks) ≡ place_from 0 l.name l.clocks
