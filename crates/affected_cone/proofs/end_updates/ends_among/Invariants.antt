use Rattle.std.proofs.Common.{◌≡◌, take}
use Rattle.std.specs.List.{filter_map}
use Rattle.affected_cone.specs.Renewed.{end_number}
use Rattle.affected_cone.proofs.end_updates.ends_among.Given as goal

abbrev pub invariant-loop-pin : goal.invariant-loop-pin
invariant-loop-pin l = l.ends ≡ filter_map (end_number l.store) (take l.pin-index l.pins)
