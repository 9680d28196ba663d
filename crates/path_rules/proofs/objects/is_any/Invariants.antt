use Rattle.std.proofs.Common.{◌≡◌, false, take}
use Rattle.std.specs.List.{list_any}
use Rattle.timing_rules.specs.Rules.{is_object}
use Rattle.path_rules.specs.Ends.{end_of}
use Rattle.path_rules.proofs.objects.is_any.Given as goal

abbrev pub invariant-loop-object : goal.invariant-loop-object
invariant-loop-object l = list_any (is_object l.clocks (end_of l.end)) (take l.object-index l.objects) ≡ false
