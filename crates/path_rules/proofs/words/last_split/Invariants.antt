use Rattle.std.proofs.Common.{◌≡◌, ℕ, ◌<◌, ◌≤◌, false, length, get_or}
use Rattle.timing_defs.specs.Names.{is_split}
use Rattle.path_rules.proofs.words.last_split.Given as goal

abbrev pub invariant-loop-end : goal.invariant-loop-end
invariant-loop-end l = record {
  within : l.end ≤ length l.word;
  clear : (k : ℕ) → l.end ≤ k → k < length l.word → is_split (get_or l.word k 0) ≡ false;
}

abbrev pub decreases-loop-end : goal.decreases-loop-end
decreases-loop-end l = l.end
