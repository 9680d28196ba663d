use Rattle.std.proofs.Common.{sym, ◌∙◌}
use Rattle.affected_cone.proofs.AskedLaws.{asked_pin}
use Rattle.affected_cone.proofs.asked.pin_there.Goals as goal

pub returns-in-Some-clause-pin : goal.returns-in-Some-clause-pin
returns-in-Some-clause-pin c = asked_pin c.args.store.now c.laws.ensures.numbered c.args.pin.now c.in-Some.number (sym c.pin.ensures ∙ c.in-Some.is)
