use Rattle.std.proofs.Common.{◌≡◌, ◌++◌, map, take}
use Rattle.timing_rules.specs.Checks.{not_ports}
use Rattle.design_link.proofs.dangling.add_delays.Given as goal

abbrev pub invariant-loop-delay : goal.invariant-loop-delay
invariant-loop-delay l = l.names ≡ l.initial.names ++ not_ports l.store.design l.dir (map (λ i. i.port) (take l.delay-index l.delays))
