use Rattle.std.proofs.Common.{◌≡◌, ◌++◌, map, filter, take}
use Rattle.std.specs.Prelude.{is_none}
use Rattle.timing_rules.specs.Checks.{port_named}
use Rattle.design_link.proofs.dangling.add_loads.Given as goal

abbrev pub invariant-loop-load : goal.invariant-loop-load
invariant-loop-load l = l.names ≡ l.initial.names ++ filter (λ name. is_none (port_named l.store.design name)) (map (λ x. x.port) (take l.load-index l.loads))
