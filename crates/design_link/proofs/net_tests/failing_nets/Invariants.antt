use Rattle.std.proofs.Common.{◌≡◌, filter}
use Rattle.design_link.specs.Counts.{names_below}
use Rattle.design_link.specs.Failing.{fails}
use Rattle.design_link.proofs.net_tests.failing_nets.Given as goal

abbrev pub invariant-loop-net : goal.invariant-loop-net
invariant-loop-net l = l.names ≡ filter (fails l.test l.store.design) (names_below l.store.nets l.net)
