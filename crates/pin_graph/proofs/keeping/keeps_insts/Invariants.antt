use Rattle.std.proofs.Common.{take}
use Rattle.std.specs.Prelude.{All}
use Rattle.pin_graph.specs.Alike.{IsSameInst}
use Rattle.pin_graph.proofs.keeping.keeps_insts.Given as goal

abbrev pub invariant-loop-name : goal.invariant-loop-name
invariant-loop-name l = All (λ name. IsSameInst l.base l.store name) (take l.name-index l.names)
