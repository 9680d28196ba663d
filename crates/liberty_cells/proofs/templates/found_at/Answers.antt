use Rattle.std.proofs.Common.{sym, ◌∙◌}
use Rattle.liberty_cells.specs.Statements.{told}
use Rattle.liberty_cells.proofs.PlacesLemmas.{found_none, found_some}
use Rattle.liberty_cells.proofs.templates.found_at.Goals as goal

pub returns-in-None : goal.returns-in-None
returns-in-None c =
    found_none c.args.places.now (told c.args.trees.now) c.args.name.now c.requires (sym c.find.ensures ∙ c.in-None.is)

pub returns-in-Some : goal.returns-in-Some
returns-in-Some c =
    c.items_at.ensures ∙ found_some c.args.places.now c.args.trees.now c.args.name.now c.in-Some.at c.requires (sym c.find.ensures ∙ c.in-Some.is)
