use Rattle.std.proofs.Common.{ℕ, ◌<◌}
use Rattle.kernel_rows.specs.WrittenNets.{net_of, IsPlace}
use Rattle.kernel_rows.proofs.written_nets.are_places.Given as goal

abbrev pub invariant-loop-node : goal.invariant-loop-node
invariant-loop-node l = (n : ℕ) → n < l.node → IsPlace (net_of l.fan) n
