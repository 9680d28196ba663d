use Rattle.std.proofs.Common.{◌∙◌, sym}
use Rattle.affected_cone.proofs.TreeKept.{numbers_same}
use Rattle.affected_cone.proofs.trees.same_numbers.Goals as goal

pub returns : goal.returns
returns c = λ yes. numbers_same c.args.a.now c.args.b.now (sym c.eq.ensures ∙ yes)
