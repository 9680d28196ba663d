use Rattle.std.proofs.Common.{rules}
use Rattle.version_board.proofs.Steps.{draws}
use Rattle.version_board.proofs.turns.draw.Goals as goal

pub compare_exchange-requires : goal.compare_exchange-requires
compare_exchange-requires g c = (search rules, search rules, draws _ _ _ _ _ _ _ _ (search rules) (search rules) (search rules))
