use Rattle.std.proofs.Common.{◌≡◌, ◌≤◌, length}
use Rattle.design_link.specs.Counts.{names_below}
use Rattle.design_link.proofs.counts.net_count.Given as goal

abbrev pub invariant-loop-net : goal.invariant-loop-net
invariant-loop-net l = record { is : l.count ≡ length (names_below l.store.nets l.net); low : l.count ≤ l.net }
