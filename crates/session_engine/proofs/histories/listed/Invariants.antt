use Rattle.std.proofs.Common.{◌≡◌, take}
use Rattle.session_engine.proofs.histories.listed.Given as goal

abbrev pub invariant-loop-at : goal.invariant-loop-at
invariant-loop-at l = l.entries ≡ take l.at l.journal
