use Rattle.std.proofs.Common.{◌+◌, ◌*◌}
use Rattle.cow_table.proofs.filled.+parts.Given as goal

abbrev pub decreases-full_pages : goal.decreases-full_pages
decreases-full_pages g l = 2 * l.parts

abbrev pub decreases-ours : goal.decreases-ours
decreases-ours g l = 2 * l.others + 1
