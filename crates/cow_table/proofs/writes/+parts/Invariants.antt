use Rattle.std.proofs.Common.{◌+◌, ◌*◌}
use Rattle.cow_table.proofs.writes.+parts.Given as goal

abbrev pub decreases-put_parts : goal.decreases-put_parts
decreases-put_parts g l = 3 * l.parts

abbrev pub decreases-put_both : goal.decreases-put_both
decreases-put_both g l = 3 * l.others + 2

abbrev pub decreases-put_both-ours : goal.decreases-put_both-ours
decreases-put_both-ours g l = 3 * l.others + 1
