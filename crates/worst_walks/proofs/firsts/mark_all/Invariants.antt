use Rattle.std.proofs.Common.{◌≡◌, ℕ, ◌||◌, take}
use Rattle.worst_walks.specs.Walks.{is_launched}
use Rattle.worst_walks.specs.Tables.{is_marked}
use Rattle.worst_walks.proofs.firsts.mark_all.Given as goal

abbrev pub invariant-loop-launch : goal.invariant-loop-launch
invariant-loop-launch l = (n : ℕ) → is_marked l.marks n ≡ (is_marked l.initial.marks n || is_launched (take l.launch-index l.launches) n)
