use Rattle.std.proofs.Common.{rules}
use Rattle.version_board.proofs.Steps.{joins}
use Rattle.version_board.proofs.seats.join_seat.Goals as goal

pub join_seat-requires : goal.join_seat-requires
join_seat-requires g c = (search rules, search rules, search rules, search rules, joins _ _ _ _ _ _ _ _ (search rules) (search rules) (search rules) (search rules))
