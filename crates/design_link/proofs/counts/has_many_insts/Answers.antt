use Rattle.std.proofs.Common.{arith}
use Rattle.design_link.proofs.CountLaws.{few_insts}
use Rattle.design_link.proofs.counts.has_many_insts.Goals as goal

pub returns-then-inst_bound-le-MOST : goal.returns-then-inst_bound-le-MOST
returns-then-inst_bound-le-MOST c =
    few_insts c.args.store.now c.laws.ensures.numbered c.laws.ensures.linked (omega (arith, c.if-inst_bound-le-MOST.true, c.inst_bound.ensures.bound))
