use Rattle.std.proofs.Common.{◌∙◌, sym}
use Rattle.affected_cone.proofs.EndCuts.{cut_at, cut_none}
use Rattle.affected_cone.proofs.end_updates.from_number.Goals as goal

pub returns-in-Some : goal.returns-in-Some
returns-in-Some c = cut_at c.args.number c.args.numbers.now c.in-Some.at (sym c.first_from.ensures ∙ c.in-Some.is)

pub returns-in-None : goal.returns-in-None
returns-in-None c = cut_none c.args.number c.args.numbers.now (sym c.first_from.ensures ∙ c.in-None.is)
