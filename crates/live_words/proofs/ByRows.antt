-- Values by the rows of matches.
use Rattle.clap.proofs.WalkLemmas.{first_value-rows, raw_values-rows}
use Rattle.std.proofs.lemmas.List.{length-map}

pub ruleset by_rows = (first_value-rows, raw_values-rows)

pub ruleset lengths = (length-map)
