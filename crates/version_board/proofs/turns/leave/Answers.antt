use Rattle.std.proofs.Common.{rules}
use Rattle.version_board.proofs.Steps.{leaves}
use Rattle.version_board.proofs.turns.leave.Goals as goal

pub fetch_add-requires : goal.fetch_add-requires
fetch_add-requires g c = (search rules, search rules, leaves _ _ _ _ _ _ _ c.args.value (search rules) (search rules) (search rules) (search rules) (search rules))
