use Rattle.std.proofs.Common.{◌≡◌, ◌++◌, take}
use Rattle.std.specs.List.{filter_map}
use Rattle.timing_defs.specs.declared.kinds.Dir.TheVariants.{Input}
use Rattle.timing_rules.specs.Checks.{not_ports}
use Rattle.design_link.proofs.dangling.add_clocks.Given as goal

abbrev pub invariant-loop-clock : goal.invariant-loop-clock
invariant-loop-clock l = l.names ≡ l.initial.names ++ not_ports l.store.design Input (filter_map (λ clock. clock.port) (take l.clock-index l.clocks))
