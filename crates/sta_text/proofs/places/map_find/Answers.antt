use Rattle.std.proofs.Common.{◌∙◌}
use Rattle.sta_text.proofs.PlacesLemmas.{said_pairs}
use Rattle.sta_text.proofs.places.map_find.Goals as goal

pub returns : goal.returns
returns c = c.copied.ensures ∙ c.get.ensures.value ∙ said_pairs c.args.numbers.now.entries c.args.name.now
