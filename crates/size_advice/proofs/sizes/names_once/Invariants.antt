use Rattle.std.proofs.Common.{drop}
use Rattle.std.specs.Str.{bytes_eq}
use Rattle.size_advice.proofs.OnceLaws.{IsSoFar}
use Rattle.size_advice.proofs.sizes.names_once.Given as goal

abbrev pub invariant-loop-inst : goal.invariant-loop-inst
invariant-loop-inst l = IsSoFar bytes_eq l.insts (drop l.inst-index l.insts) l.made
