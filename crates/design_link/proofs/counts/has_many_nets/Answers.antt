use Rattle.std.proofs.Common.{arith}
use Rattle.design_link.proofs.CountLaws.{few_nets}
use Rattle.design_link.proofs.counts.has_many_nets.Goals as goal

pub returns-then-net_bound-le-MOST : goal.returns-then-net_bound-le-MOST
returns-then-net_bound-le-MOST c =
    few_nets c.args.store.now c.laws.ensures.numbered c.laws.ensures.linked (omega (arith, c.if-net_bound-le-MOST.true, c.net_bound.ensures.bound))
