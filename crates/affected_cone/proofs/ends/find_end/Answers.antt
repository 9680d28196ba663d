use Rattle.std.proofs.Common.{get_or, arith}
use Rattle.std.proofs.lemmas.List.{get_or_default}
use Rattle.affected_cone.proofs.FindLaws.{no_end, found_first, found_other, found_none}
use Rattle.affected_cone.proofs.ends.find_end.Goals as goal

pub returns-then-end-pin : goal.returns-then-end-pin
returns-then-end-pin c =
    found_first c.args.ends.now c.args.pin c.first_from-at.result c.first_from-at.ensures (get_or c.args.ends.now c.first_from-at.result no_end) c.if-at-ends.true
    (get_or_default c.args.ends.now c.first_from-at.result no_end (get_or c.args.ends.now c.first_from-at.result no_end) c.if-at-ends.true) c.if-end-pin.true

pub returns-else-end-pin : goal.returns-else-end-pin
returns-else-end-pin c =
    found_other c.args.ends.now c.args.pin c.first_from-at.result c.first_from-at.ensures (get_or c.args.ends.now c.first_from-at.result no_end) c.requires c.if-at-ends.true
    (get_or_default c.args.ends.now c.first_from-at.result no_end (get_or c.args.ends.now c.first_from-at.result no_end) c.if-at-ends.true) (λ e. omega (arith, e))

pub returns-else-at-ends : goal.returns-else-at-ends
returns-else-at-ends c = found_none c.args.ends.now c.args.pin c.first_from-at.result c.first_from-at.ensures no_end c.if-at-ends.false
