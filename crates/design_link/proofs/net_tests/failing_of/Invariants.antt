use Rattle.std.proofs.Common.{◌≡◌, filter, take}
use Rattle.design_link.specs.Failing.{fails_here}
use Rattle.design_link.proofs.net_tests.failing_of.Given as goal

abbrev pub invariant-loop-net : goal.invariant-loop-net
invariant-loop-net l = l.names ≡ filter (fails_here l.test l.store.design) (take l.net-index l.nets)
