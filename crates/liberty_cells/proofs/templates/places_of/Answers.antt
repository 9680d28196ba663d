use Rattle.std.proofs.Common.{sym, ◌∙◌}
use Rattle.sta_text.specs.Names.{said}
use Rattle.liberty_cells.proofs.PlacesLemmas.{none_left}
use Rattle.liberty_cells.proofs.templates.places_of.Goals as goal

pub returns : goal.returns
returns c =
    λ q. sym (none_left (said c.loop-at.places q) q c.loop-at.at c.args.trees.now c.loop-at-test.false) ∙ c.loop-at.invariant q
