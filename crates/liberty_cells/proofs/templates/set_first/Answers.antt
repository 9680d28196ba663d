use Rattle.std.proofs.Common.{sym, ◌∙◌}
use Rattle.liberty_cells.proofs.PlacesLemmas.{kept, added}
use Rattle.liberty_cells.proofs.templates.set_first.Goals as goal

pub returns-in-Some : goal.returns-in-Some
returns-in-Some c =
    λ q other. kept c.args.places.now q c.args.name.now c.args.at c.in-Some.field-0 other (sym c.find.ensures ∙ c.in-Some.is)

pub returns-in_ok-set-in-None : goal.returns-in_ok-set-in-None
returns-in_ok-set-in-None c =
    λ q other. added c.args.places.now c.set.new.self q c.args.name.now c.args.at other (sym c.find.ensures ∙ c.in-None.is) (c.in_ok-set-in-None.ensures.any q)
