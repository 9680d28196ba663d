use Rattle.spef_reader.proofs.NameMapLemmas.{found_rows}
use Rattle.spef_reader.proofs.name_map.map_find.Goals as goal

pub returns : goal.returns
returns c = found_rows c.args.rows.now.entries c.args.index.now c.get.result c.get.ensures.value
