use Rattle.std.proofs.Common.{◌+◌, ◌*◌}
use Rattle.level_workers.proofs.mapping.+pieces.Given as goal

abbrev pub decreases-map_pieces : goal.decreases-map_pieces
decreases-map_pieces g l = 2 * l.pieces.count

abbrev pub decreases-theirs : goal.decreases-theirs
decreases-theirs g l = 2 * l.last.count + 1

abbrev pub decreases-ours : goal.decreases-ours
decreases-ours g l = 2 * l.others.count + 1
