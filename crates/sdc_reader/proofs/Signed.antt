-- Steps of whole numbers that are passed from one call into another.
use Rattle.std.proofs.lemmas.Int.{to_z-of_z, ints}

pub ruleset signed_steps = (to_z-of_z, ints)
