use Rattle.std.proofs.Common.{◌≡◌, ◌++◌, map, take}
use Rattle.timing_defs.specs.declared.kinds.Dir.TheVariants.{Input}
use Rattle.timing_rules.specs.Checks.{not_ports}
use Rattle.design_link.proofs.dangling.add_slews.Given as goal

abbrev pub invariant-loop-slew : goal.invariant-loop-slew
invariant-loop-slew l = l.names ≡ l.initial.names ++ not_ports l.store.design Input (map (λ s. s.port) (take l.slew-index l.slews))
