use Rattle.std.proofs.Common.{◌≡◌, filter}
use Rattle.std.specs.List.{range_with_len}
use Rattle.affected_cone.specs.Analysed.{is_end}
use Rattle.affected_cone.proofs.ends.all_ends.Given as goal

abbrev pub invariant-loop-pin : goal.invariant-loop-pin
invariant-loop-pin l = l.ends ≡ filter (is_end l.store) (range_with_len 0 l.pin)
