use Rattle.std.proofs.Common.{length}
use Rattle.live_words.proofs.matched.+paired_behind.Given as goal

abbrev pub decreases-paired_behind : goal.decreases-paired_behind
decreases-paired_behind l = length l.names.now
