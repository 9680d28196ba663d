use Rattle.std.proofs.Common.{arith}
use Rattle.levelizer.proofs.Walks.{must_have}
use Rattle.levelizer.proofs.cycles.place_of.Goals as goal

pub unreachable-requires : goal.unreachable-requires
unreachable-requires c = must_have c.args.walk.now c.args.node c.requires (λ k l. c.loop-i.invariant k (omega arith))
