use Rattle.std.proofs.Common.{◌∙◌}
use Rattle.sta_text.proofs.NamesLemmas.{any_texts}
use Rattle.sta_text.proofs.names.set_has.Goals as goal

pub returns : goal.returns
returns c = c.contains.ensures ∙ any_texts c.args.names.now.keys c.args.name.now
