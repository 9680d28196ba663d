use Rattle.std.proofs.Common.{arith}
use Rattle.design_link.proofs.CountLaws.{few_pins}
use Rattle.design_link.proofs.counts.has_many_pins.Goals as goal

pub returns-then-pin_bound-le-MOST : goal.returns-then-pin_bound-le-MOST
returns-then-pin_bound-le-MOST c =
    few_pins c.args.store.now c.laws.ensures.numbered c.laws.ensures.linked (omega (arith, c.if-pin_bound-le-MOST.true, c.pin_bound.ensures.bound))
