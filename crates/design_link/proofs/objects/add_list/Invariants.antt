use Rattle.std.proofs.Common.{◌≡◌, ◌++◌, take}
use Rattle.std.specs.List.{filter_map}
use Rattle.timing_rules.specs.Checks.{dangling_object}
use Rattle.design_link.proofs.objects.add_list.Given as goal

abbrev pub invariant-loop-object : goal.invariant-loop-object
invariant-loop-object l = l.names ≡ l.initial.names ++ filter_map (dangling_object l.store.design l.dir) (take l.object-index l.objects)
