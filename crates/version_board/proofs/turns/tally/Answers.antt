use Rattle.std.proofs.Common.{rules}
use Rattle.version_board.proofs.Steps.{tally}
use Rattle.version_board.proofs.turns.tally.Goals as goal

pub load-requires : goal.load-requires
load-requires g c = (search rules, search rules, tally _ _ _ _ _ _ _ (search rules) (search rules))
