use Rattle.std.proofs.Common.{◌≡◌, take}
use Rattle.timing_defs.proofs.question_copies.+question.Given as goal

abbrev pub invariant-trials_again-loop-item : goal.invariant-trials_again-loop-item
invariant-trials_again-loop-item l = l.copies ≡ take l.item-index l.item-items
