use Rattle.std.proofs.Common.{sym, ◌∙◌}
use Rattle.store_pins.proofs.PinLaws.{told_at}
use Rattle.affected_cone.proofs.asked.end_named.Goals as goal

pub end_at-requires-clause-number : goal.end_at-requires-clause-number
end_at-requires-clause-number c = told_at c.args.store.now.pins c.args.pin.now c.in-Some.number (sym c.pin.ensures ∙ c.in-Some.is)
