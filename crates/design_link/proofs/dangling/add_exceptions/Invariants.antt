use Rattle.std.proofs.Common.{◌≡◌, ◌++◌, take}
use Rattle.std.specs.List.{flat_map}
use Rattle.timing_rules.specs.Checks.{dangling_exception}
use Rattle.design_link.proofs.dangling.add_exceptions.Given as goal

abbrev pub invariant-loop-exception : goal.invariant-loop-exception
invariant-loop-exception l = l.names ≡ l.initial.names ++ flat_map (dangling_exception l.store.design) (take l.exception-index l.exceptions)
