use Rattle.std.proofs.Common.{◌∙◌, ap}
use Rattle.spef_reader.specs.Names.{rows_at}
use Rattle.spef_reader.proofs.NameMapLemmas.{rows_set}
use Rattle.spef_reader.proofs.name_map.map_set.Goals as goal

pub returns-in-Ok : goal.returns-in-Ok
returns-in-Ok c = ap rows_at c.in-Ok.ensures.entries ∙ rows_set c.args.rows.now.entries c.args.index c.args.spelling
